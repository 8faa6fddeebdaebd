use Rattle.std.proofs.Common.{◌≡◌, None, replicate}
use Rattle.trace_audit.proofs.front.no_tickets.Given as goal

abbrev pub invariant-loop : goal.invariant-loop
invariant-loop l = l.latest.items ≡ replicate l.counter None
