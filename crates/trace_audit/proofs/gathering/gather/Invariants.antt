use Rattle.std.proofs.Common.{take}
use Rattle.trace_audit.specs.Desk.{AreGathered}
use Rattle.trace_audit.proofs.gathering.gather.Given as goal

abbrev pub invariant-loop-e : goal.invariant-loop-e
invariant-loop-e l = AreGathered l.fn.requests (take l.e-index l.events) l.tickets.items
