use Rattle.std.proofs.Common.{ℕ, ◌+◌, ◌-◌, drop, slice_get, sym, ap, ◌∙◌, arith}
use Rattle.hall_rule.specs.Listing.{all_entries}
use Rattle.session_hall.proofs.Listed.{count_next, entry_here, entry_later}
use Rattle.session_hall.proofs.listing.entry_at.Goals as goal

pub returns-then-left-len : goal.returns-then-left-len
returns-then-left-len c =
    sym c.loop-part.invariant.same
    ∙ entry_here c.args.parts.now c.loop-part.part-index c.part-item.result c.loop-part-test.true c.part-item.is c.loop-part.left c.entry.result c.entry.ensures

pub loop-part-preserved : goal.loop-part-preserved
loop-part-preserved c =
    let inv = c.loop-part.invariant in
    let long = c.len-len.ensures.entries in
    let passed = c.if-left-len.false in
    record {
      same = ap (λ (a : ℕ). slice_get (all_entries (drop (c.loop-part.part-index + 1) c.args.parts.now)) (c.loop-part.left - a)) long
          ∙ sym (entry_later c.args.parts.now c.loop-part.part-index c.part-item.result c.loop-part-test.true c.part-item.is c.loop-part.left (omega (arith, long, passed)))
          ∙ inv.same;
      within = omega (arith, inv.within, long, passed, count_next c.args.parts.now c.loop-part.part-index c.part-item.result c.loop-part-test.true c.part-item.is);
    }
