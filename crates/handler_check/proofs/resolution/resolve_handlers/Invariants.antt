use Rattle.std.proofs.Common.{◌≡◌, [], drop, take}
use Rattle.std.specs.List.{AllZip}
use Rattle.handler_check.specs.Resolved.{IsResolved}
use Rattle.handler_check.specs.Scan.{scan_handlers}
use Rattle.handler_check.proofs.resolution.resolve_handlers.Given as goal

abbrev pub invariant-loop-handler : goal.invariant-loop-handler
invariant-loop-handler l = record {
  found : scan_handlers l.declared [] l.handlers ≡ scan_handlers l.declared l.earlier.items (drop l.handler-index l.handlers);
  resolved : AllZip (IsResolved l.tables) (take l.handler-index l.handlers) l.found.items;
}
