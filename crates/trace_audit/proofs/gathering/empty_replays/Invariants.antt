use Rattle.std.proofs.Common.{◌≡◌, [], replicate}
use Rattle.trace_audit.specs.Desk.{fresh}
use Rattle.trace_audit.proofs.gathering.empty_replays.Given as goal

abbrev pub invariant-loop : goal.invariant-loop
invariant-loop l = l.tickets.items ≡ replicate l.counter (fresh [])
