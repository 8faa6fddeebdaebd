use Rattle.std.proofs.Common.{rules}
use Rattle.serve_reading.proofs.Counting.{member_smaller}
use Rattle.waiting_pairs.proofs.Operations.{operations_more}
use Rattle.waiting_pairs.proofs.asked.+asking.Goals as goal

pub add_block-add_stmt-requires : goal.add_block-add_stmt-requires
add_block-add_stmt-requires t c =
    let smaller = member_smaller _ _ _ _ c.loop-stmt-test.true c.stmt-item.is in
    search rules

pub add_block-loop-stmt-preserved : goal.add_block-loop-stmt-preserved
add_block-loop-stmt-preserved t c =
    operations_more c.args.handler c.args.block.now c.loop-stmt.stmt-index c.stmt-item.result c.loop-stmt.out.items c.add_stmt.new.out.items _ c.loop-stmt-test.true c.stmt-item.is c.in_ok-add_stmt.ensures c.loop-stmt.invariant
