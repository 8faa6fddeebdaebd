use Rattle.std.proofs.Common.{arith}
use Rattle.session_hall.proofs.ShardsByTurn.{part_few}
use Rattle.session_hall.proofs.on_shards.count_row.Goals as goal

pub overflow_add-count : goal.overflow_add-count
overflow_add-count g c = omega (arith, part_few c.args.hands.now.pairs c.args.first c.loop-i.i c.args.many c.loop-i.count c.keys_under-count.result c.loop-i-test.true c.requires.few c.loop-i.invariant c.keys_under-count.ensures)
