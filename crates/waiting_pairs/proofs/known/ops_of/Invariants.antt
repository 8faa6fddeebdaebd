use Rattle.std.proofs.Common.{◌≡◌, true, take, Contains}
use Rattle.indexmap.specs.IndexSet.{contains}
use Rattle.waiting_pairs.specs.declared.sought.Sought.{Sought}
use Rattle.waiting_pairs.specs.Chosen.{AreAmong}
use Rattle.waiting_pairs.specs.Sought.{is_sought}
use Rattle.waiting_pairs.proofs.known.ops_of.Given as goal

abbrev pub invariant-loop-a : goal.invariant-loop-a
invariant-loop-a l = ((q : Sought) → contains is_sought l.seen q ≡ true → Contains l.ops.items q.symbol) × AreAmong l.ops.items (take l.a-index l.asked)
