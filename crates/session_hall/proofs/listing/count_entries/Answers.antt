use Rattle.std.proofs.Common.{List, length, ap, arith}
use Rattle.session_journal.specs.Opening.{Pair}
use Rattle.session_hall.proofs.Listed.{apart_next, count_next, no_more, none_apart, none_sized, sizes_next}
use Rattle.session_hall.proofs.listing.count_entries.Goals as goal

pub overflow_add-count : goal.overflow_add-count
overflow_add-count c = omega (arith, c.loop-part.invariant.size, c.requires, c.len-count.ensures.size, sizes_next c.args.parts.now c.loop-part.part-index c.part-item.result c.loop-part-test.true c.part-item.is)

pub loop-part-preserved : goal.loop-part-preserved
loop-part-preserved c =
    let inv = c.loop-part.invariant in
    record {
      count = omega (arith, inv.count, c.len-count.ensures.entries, count_next c.args.parts.now c.loop-part.part-index c.part-item.result c.loop-part-test.true c.part-item.is);
      size = omega (arith, inv.size, c.len-count.ensures.size, sizes_next c.args.parts.now c.loop-part.part-index c.part-item.result c.loop-part-test.true c.part-item.is);
      apart = λ rest. inv.apart (apart_next c.args.parts.now c.loop-part.part-index c.part-item.result c.loop-part-test.true c.part-item.is c.len-count.ensures.apart rest);
    }

pub returns : goal.returns
returns c =
    let inv = c.loop-part.invariant in
    let all = c.loop-part-test.false in
    record {
      count = omega (arith, inv.count, ap (λ (l : List Pair). length l) (no_more c.args.parts.now c.loop-part.part-index all));
      size = omega (arith, inv.size, none_sized c.args.parts.now c.loop-part.part-index all);
      apart = inv.apart (none_apart c.args.parts.now c.loop-part.part-index all);
    }
