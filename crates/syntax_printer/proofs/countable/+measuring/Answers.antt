use Rattle.std.proofs.Common.{arith, rules}
use Rattle.syntax_trees.proofs.Sizes.{member_smaller}
use Rattle.syntax_printer.proofs.Counted.{measured_turn, measured_end}
use Rattle.syntax_printer.proofs.countable.+measuring.Goals as goal

pub size_of_block-size_of_stmt-own-requires : goal.size_of_block-size_of_stmt-own-requires
size_of_block-size_of_stmt-own-requires t c =
    let smaller = member_smaller _ _ _ _ c.loop-s-test.true c.s-item.is in
    search rules

pub size_of_block-loop-s-preserved : goal.size_of_block-loop-s-preserved
size_of_block-loop-s-preserved t c =
    let x = c.s-item.result in
    let turn = measured_turn c.args.block.now c.loop-s.s-index c.loop-s.size _ x x c.loop-s-test.true c.s-item.is c.size_of_stmt-own.ensures c.loop-s.invariant.small c.loop-s.invariant.sum in
    record { sum = omega arith; small = omega arith }

pub size_of_block-returns : goal.size_of_block-returns
size_of_block-returns t c = measured_end c.args.block.now c.loop-s.s-index c.loop-s.size c.loop-s-test.false c.loop-s.invariant.small c.loop-s.invariant.sum
