-- What a board's rule sees between any two steps.
use Rattle.std.specs.Prelude.{◌≡◌, ℕ, Option, slice_index}
use Rattle.std.specs.Int.{bit_at}
use Rattle.turn_steps.specs.Table.{State}
use Rattle.turn_steps.specs.declared.view.View.{View}

-- the words and the slots of a board's table, and what its seats know
abbrev pub BoardState : Type 0 → Type 0 → Type 0
BoardState V C = State (Option V) (View C)

-- no seat holds the turn: in the word of all turns, which is word 7, its bit is clear
abbrev pub IsFree : {V C : Type 0} → BoardState V C → ℕ → Type 0
IsFree s turn = bit_at (slice_index s.words 7) turn ≡ 0
