-- What a closing needs of seats. Only this crate's own functions cite it.
use Rattle.std.specs.Prelude.{ℕ, List, [], ◌∷◌, ◌++◌}
use Rattle.turn_board.specs.declared.seat.Seat.{Seat}

-- the callers of these seats, with their notes
abbrev pub all_notes : {V R C : Type 0} → List (Seat V R C) → List (ℕ × C)
all_notes [] = []
all_notes (s ∷ ss) = s.pass.token.me.0.speaks ++ all_notes ss
