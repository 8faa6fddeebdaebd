use Rattle.std.proofs.Common.{◌≡◌}
use Rattle.tests_desks.proofs.driven.list.Given as goal

abbrev pub invariant-loop-s : goal.invariant-loop-s
invariant-loop-s l = l.list.room ≡ 3
