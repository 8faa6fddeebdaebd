use Rattle.std.proofs.Common.{◌≡◌, [], drop, take}
use Rattle.handler_check.specs.Excess.{IsExcessOf}
use Rattle.handler_check.specs.Scan.{scan_handlers}
use Rattle.handler_check.proofs.looking.look_at_handlers.Given as goal

abbrev pub invariant-loop-handler : goal.invariant-loop-handler
invariant-loop-handler l = record {
  found : scan_handlers l.declared [] l.handlers ≡ scan_handlers l.declared l.earlier.items (drop l.handler-index l.handlers);
  beyond : IsExcessOf l.tables (take l.handler-index l.handlers) l.beyond;
}
