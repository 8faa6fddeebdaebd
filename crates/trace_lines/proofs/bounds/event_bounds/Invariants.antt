use Rattle.std.proofs.Common.{take}
use Rattle.std.specs.List.{AllByRecursion}
use Rattle.trace_lines.specs.Bounds.{IsHeldEvent}
use Rattle.trace_lines.proofs.bounds.event_bounds.Given as goal

abbrev pub invariant-loop-e : goal.invariant-loop-e
invariant-loop-e l = AllByRecursion IsHeldEvent (take l.e-index l.events)
