use Rattle.waiting_pairs.proofs.ChosenLists.{none_all, none_more}
use Rattle.waiting_pairs.proofs.known.delays_none.Goals as goal

pub loop-op-preserved : goal.loop-op-preserved
loop-op-preserved c = none_more c.args.symbol.now c.args.ops.now c.loop-op.op-index c.op-item.result c.delays.result c.loop-op-test.true c.op-item.is c.if-delays.false c.delays.ensures c.loop-op.invariant
