use Rattle.std.proofs.Common.{arith}
use Rattle.tests_threads.proofs.Counting.{in-row}
use Rattle.tests_threads.proofs.rows.find_set_taken.Goals as goal

pub try_take_all-requires-clause-set : goal.try_take_all-requires-clause-set
try_take_all-requires-clause-set g c = λ u e. let h = in-row u e in (h.0, (let t = c.requires.turns in let n = h.1 in omega arith), c.requires.free u)
