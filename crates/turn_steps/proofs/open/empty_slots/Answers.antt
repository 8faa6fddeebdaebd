use Rattle.std.proofs.Common.{◌<◌, ◌∷◌, [], Some, length, length-append, ap, ◌∙◌, arith}
use Rattle.turn_steps.proofs.Moving.{no_none, rest_some, unmade_next}
use Rattle.turn_steps.proofs.open.empty_slots.Goals as goal

pub unreachable-requires : goal.unreachable-requires
unreachable-requires g c =
    let inv = c.loop-done.invariant in
    let r-len = c.remove.ensures.len in
    let long = c.loop-done.left.ok in
    let some-left : 0 < length c.loop-done.left.items = omega (arith, r-len, long) in
    no_none c.loop-done.left.items c.remove.result inv.rest.0 inv.rest.1 some-left c.remove.ensures.value c.in-None.is

pub loop-done-preserved : goal.loop-done-preserved
loop-done-preserved g c =
    let inv = c.loop-done.invariant in
    let count = inv.count in
    let many = inv.many in
    let r = c.remove.ensures in
    let r-len = r.len in
    let long = c.loop-done.left.ok in
    let some-left : 0 < length c.loop-done.left.items = omega (arith, r-len, long) in
    record {
      moved = unmade_next Some c.loop-done.left.items _ c.remove.result c.in-Some.value c.loop-done.values.items _ _ some-left r.value r.items c.in-Some.is c.push_reserved.ensures.items inv.moved;
      rest = rest_some c.loop-done.left.items _ inv.rest.0 inv.rest.1 r.items;
      many = omega arith;
      count = ap length c.push_reserved.ensures.items ∙ length-append c.loop-done.values.items (c.in-Some.value ∷ []) ∙ (omega arith);
      room = omega (arith, inv.room, c.push_reserved.ensures.capacity);
    }
