use Rattle.std.proofs.Common.{arith, rules}
use Rattle.handler_check.proofs.Counting.{work_turn, work_end, member_smaller}
use Rattle.handler_check.proofs.work.+working.Goals as goal

pub count_work-work_of-own-requires : goal.count_work-work_of-own-requires
count_work-work_of-own-requires t c =
    let smaller = member_smaller _ _ _ _ c.loop-s-test.true c.s-item.is in
    search rules

pub count_work-loop-s-preserved : goal.count_work-loop-s-preserved
count_work-loop-s-preserved t c =
    let x = c.s-item.result in
    let turn = work_turn c.args.block.now c.loop-s.s-index x x c.loop-s.total _ c.loop-s-test.true c.s-item.is c.loop-s.invariant.sum in
    record { sum = omega arith; small = omega arith }

pub count_work-returns : goal.count_work-returns
count_work-returns t c = work_end c.args.block.now c.loop-s.s-index c.loop-s.total _ c.loop-s-test.false c.loop-s.invariant.small c.loop-s.invariant.sum
