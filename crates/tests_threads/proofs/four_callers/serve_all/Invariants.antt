use Rattle.std.proofs.Common.{◌≡◌, true}
use Rattle.tests_threads.proofs.four_callers.serve_all.Given as goal

abbrev pub invariant-loop-ticket : goal.invariant-loop-ticket
invariant-loop-ticket g l = (l.desk.script ≡ l.plan) × (l.desk.desk.ended ≡ true)
