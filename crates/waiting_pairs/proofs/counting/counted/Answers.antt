use Rattle.waiting_pairs.specs.Causes.{is_same}
use Rattle.std.proofs.Common.{arith}
use Rattle.waiting_pairs.specs.Same.{one_cause, same_equiv}
use Rattle.waiting_pairs.proofs.CountedLists.{counted_few, counted_more}
use Rattle.waiting_pairs.proofs.counting.counted.Goals as goal

pub loop-cause-preserved : goal.loop-cause-preserved
loop-cause-preserved c = counted_more is_same same_equiv one_cause c.args.causes.now c.loop-cause.cause-index c.cause-item.result c.count_of-count.result c.loop-cause.found.entries c.insert.new.self.entries c.loop-cause-test.true c.cause-item.is c.loop-cause.invariant c.count_of-count.ensures c.in_ok-insert.ensures.entries

pub overflow_add-count : goal.overflow_add-count
overflow_add-count c =
    let few = counted_few is_same same_equiv one_cause c.args.causes.now c.loop-cause.cause-index c.cause-item.result c.count_of-count.result c.loop-cause.found.entries (omega (arith, c.loop-cause-test.true)) c.loop-cause.invariant c.count_of-count.ensures in
    omega (arith, few, c.loop-cause-test.true, c.requires)
