use Rattle.std.proofs.Common.{◌≡◌, replicate}
use Rattle.trace_audit.specs.Judging.{no_standing}
use Rattle.trace_audit.proofs.front.fresh_standings.Given as goal

abbrev pub invariant-loop : goal.invariant-loop
invariant-loop l = l.standings.items ≡ replicate l.counter no_standing
