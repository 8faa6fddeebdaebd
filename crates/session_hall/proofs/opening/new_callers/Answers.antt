use Rattle.std.proofs.Common.{◌≡◌, ◌+◌, ◌<◌, ℕ, Some, length, refl, sym, subst, arith}
use Rattle.std.specs.Prelude.{slice_get}
use Rattle.session_hall.proofs.Opened.{first_hands, here_left, new_more, next_left, none_new, rest_hands}
use Rattle.session_hall.proofs.opening.new_callers.Goals as goal

pub loop-number-init : goal.loop-number-init
loop-number-init g c = record {
  new = none_new c.args.seats.items c.args.list.items c.requires.room.0;
  left = λ i s e. (let z : 0 + i ≡ i = omega arith in subst (λ (k : ℕ). slice_get c.args.seats.items k ≡ Some s) (sym z) e);
  many = omega arith;
  free = c.requires.hands;
  room = c.requires.room.1;
}

pub remove-requires-in-loop-number : goal.remove-requires-in-loop-number
remove-requires-in-loop-number g c = omega (arith, c.loop-number.invariant.free.long, c.loop-number.invariant.many, c.loop-number-test.true)

pub loop-number-preserved : goal.loop-number-preserved
loop-number-preserved g c =
    let inv = c.loop-number.invariant in
    let many = inv.many in
    let r = c.remove.ensures in
    let r-len = r.len in
    let long = c.loop-number.left.ok in
    let some-left : 0 < length c.loop-number.left.items = omega arith in
    let at = here_left c.args.seats.items c.loop-number.left.items c.loop-number.number inv.left c.remove.result some-left r.value in
    let f = c.remove-in-loop-number.ensures in
    let empty = first_hands _ c.loop-number.free.items c.remove-in-loop-number.result inv.free (omega (arith, inv.free.long, long, some-left)) f.value in
    record {
      new = new_more c.args.seats.items c.loop-number.number c.loop-number.callers.items c.push_reserved.new.self.items _ c.remove.result inv.new at (record { seat_is = refl; number_is = refl; idle = refl; no_pairs = empty.0; hands_room = empty.1 }) c.push_reserved.ensures.items;
      left = next_left c.args.seats.items c.loop-number.left.items c.loop-number.number inv.left c.remove.new.self.items r.items;
      many = omega arith;
      free = rest_hands _ _ c.loop-number.free.items c.remove-in-loop-number.new.self.items inv.free f.items r-len;
      room = omega (arith, inv.room, c.push_reserved.ensures.capacity);
    }
