use Rattle.std.proofs.Common.{◌<◌, ◌∷◌, [], length, length-append, ap, ◌∙◌, arith}
use Rattle.turn_board.proofs.Moving.{moved_next}
use Rattle.session_hall.proofs.closing.seats_of.Goals as goal

pub loop-done-preserved : goal.loop-done-preserved
loop-done-preserved g c =
    let inv = c.loop-done.invariant in
    let count = inv.count in
    let many = inv.many in
    let r = c.remove-seat.ensures in
    let r-len = r.len in
    let long = c.loop-done.left.ok in
    let one = c.remove-seat.result in
    let some-left : 0 < length c.loop-done.left.items = omega arith in
    record {
      moved = moved_next _ c.loop-done.left.items _ one c.loop-done.seats.items _ _ some-left r.value r.items c.push_reserved.ensures.items inv.moved;
      many = omega arith;
      count = ap length c.push_reserved.ensures.items ∙ length-append c.loop-done.seats.items (one.seat ∷ []) ∙ (omega arith);
      room = omega (arith, inv.room, c.push_reserved.ensures.capacity);
    }
