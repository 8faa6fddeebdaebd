-- What hands end as, where a `&mut` to one of their values is returned.
use Rattle.std.specs.Prelude.{ℕ, slice_set}
use Rattle.std.specs.Borrow.{Lends, Fml, RattleType, MutBor}
use Rattle.turn_board.specs.Hands.{HandsView, turn_at}
use Rattle.turn_board.specs.contracts.hands.Hands.{the_row}

-- the same hands, with another value at a place
abbrev pub with_value : {V : Type 0} → HandsView V → ℕ → V → HandsView V
with_value hands i value = record {
  pairs = slice_set hands.pairs i (turn_at hands.pairs i, value);
  room = hands.room;
}

-- once the borrow r ends, the place has the last value that was written through r
abbrev pub LendsValue : (V : RattleType) → MutBor (HandsView V.Denot) → ℕ → MutBor V.Denot → Fml
LendsValue V hands i r = Lends (the_row V) V hands r (with_value hands.now i)
