use Rattle.std.proofs.Common.{arith, rules}
use Rattle.handler_check.specs.Counted.{weight_of}
use Rattle.handler_check.proofs.Counting.{bound_turn, bound_end, member_smaller}
use Rattle.handler_check.proofs.bounds.+counting.Goals as goal

pub count_calls-count_stmt-own-requires : goal.count_calls-count_stmt-own-requires
count_calls-count_stmt-own-requires t c =
    let smaller = member_smaller _ _ _ _ c.loop-s-test.true c.s-item.is in
    search rules

pub count_calls-loop-s-preserved : goal.count_calls-loop-s-preserved
count_calls-loop-s-preserved t c =
    let x = c.s-item.result in
    let turn = bound_turn (weight_of c.args.counted) c.args.block.now c.loop-s.s-index x x c.loop-s.total _ c.loop-s-test.true c.s-item.is c.loop-s.invariant.sum in
    record { sum = omega arith; small = omega arith }

pub count_calls-returns : goal.count_calls-returns
count_calls-returns t c = bound_end (weight_of c.args.counted) c.args.block.now c.loop-s.s-index c.loop-s.total _ c.loop-s-test.false c.loop-s.invariant.small c.loop-s.invariant.sum
