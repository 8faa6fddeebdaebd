use Rattle.may_use_analysis.proofs.StillLemmas.{still_more}
use Rattle.may_use_analysis.proofs.still.+being_still.Goals as goal

pub is_block_still-loop-stmt-preserved : goal.is_block_still-loop-stmt-preserved
is_block_still-loop-stmt-preserved t c =
    still_more c.args.vars.bits c.args.block.now c.loop-stmt.stmt-index c.stmt-item.result _ c.loop-stmt-test.true c.stmt-item.is (rw c.if-not-is_still.false at c.is_still.ensures) c.loop-stmt.invariant
