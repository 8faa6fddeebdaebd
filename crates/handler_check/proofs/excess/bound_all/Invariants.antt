use Rattle.std.proofs.Common.{◌≡◌, drop, take}
use Rattle.std.specs.List.{AllZip}
use Rattle.handler_check.specs.Checked.{AreBoundsOf}
use Rattle.handler_check.specs.Excess.{excess}
use Rattle.handler_check.proofs.excess.bound_all.Given as goal

abbrev pub invariant-loop-handler : goal.invariant-loop-handler
invariant-loop-handler l = record {
  found : excess l.handlers ≡ excess (drop l.handler-index l.handlers);
  bounds : AllZip AreBoundsOf (take l.handler-index l.handlers) l.found.items;
}
