-- Four callers that add to two counters: what a seat has between two additions, and what hands
-- have. Only this crate's own functions cite it.
use Rattle.std.specs.Prelude.{◌≡◌, ◌≢◌, ℕ, ◌<◌, List, [], ◌∷◌, length, Some, slice_get, slice_index_or}
use Rattle.turn_board.specs.declared.board.Board.{Board}
use Rattle.turn_board.specs.declared.seat.Seat.{Seat}
use Rattle.turn_board.specs.Hands.{HandsView}
use Rattle.turn_board.specs.Boards.{held, Ends}

-- hands are empty, with room for two values
abbrev pub HasRoom : HandsView ℕ → Type 0
HasRoom hands = (hands.pairs ≡ []) × (1 < hands.room)

-- the seat took both counters, whose values are in the hands
pub record HasBoth {R : Type 0} (p q : Seat ℕ R ℕ) (pairs : List (ℕ × ℕ)) : Type 0 where
  pub even : ℕ
  pub odd : ℕ
  pub pairs_are : pairs ≡ (1, even) ∷ (2, odd) ∷ []
  pub even_is : held q 1 ≡ Some even
  pub odd_is : held q 2 ≡ Some odd
  pub others : (u : ℕ) → u ≢ 1 → u ≢ 2 → held q u ≡ held p u

module _ {R : Type 0} (b : Board ℕ R ℕ) where
  -- each seat is its caller's, and holds nothing
  abbrev pub AllFree : List (Seat ℕ R ℕ) → Type 0
  AllFree seats = (i : ℕ) (d : Seat ℕ R ℕ) → i < length seats
      → Ends b 4 i (slice_index_or seats i d)

  -- the same, by what stands at each place
  abbrev pub EachFree : List (Seat ℕ R ℕ) → Type 0
  EachFree seats = (i : ℕ) (s : Seat ℕ R ℕ) → slice_get seats i ≡ Some s → Ends b 4 i s
