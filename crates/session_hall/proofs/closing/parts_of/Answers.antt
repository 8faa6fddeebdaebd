use Rattle.std.proofs.Common.{◌<◌, ◌∷◌, [], length, length-append, ap, ◌∙◌, arith}
use Rattle.session_hall.proofs.Left.{parts_next, tables_next, no_book}
use Rattle.session_hall.proofs.closing.parts_of.Goals as goal

pub unreachable-requires : goal.unreachable-requires
unreachable-requires g c =
    let inv = c.loop-done.invariant in
    let r = c.remove.ensures in
    let r-len = r.len in
    let long = c.loop-done.left.ok in
    let some-left : 0 < length c.loop-done.left.items = omega arith in
    no_book c.loop-done.left.items c.remove.result _ some-left r.value c.in-Register.is inv.tables

pub loop-done-preserved : goal.loop-done-preserved
loop-done-preserved g c =
    let inv = c.loop-done.invariant in
    let count = inv.count in
    let many = inv.many in
    let r = c.remove.ensures in
    let r-len = r.len in
    let long = c.loop-done.left.ok in
    let some-left : 0 < length c.loop-done.left.items = omega arith in
    record {
      moved = parts_next c.loop-done.left.items _ c.remove.result c.in-Table.part c.loop-done.parts.items _ _ some-left r.value r.items c.in-Table.is c.push_reserved.ensures.items inv.moved;
      tables = tables_next c.loop-done.left.items _ r.items inv.tables;
      many = omega arith;
      count = ap length c.push_reserved.ensures.items ∙ length-append c.loop-done.parts.items (c.in-Table.part ∷ []) ∙ (omega arith);
      room = omega (arith, inv.room, c.push_reserved.ensures.capacity);
    }
