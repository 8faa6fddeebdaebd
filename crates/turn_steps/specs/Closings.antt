-- What a closing needs of slots and callers.
use Rattle.std.specs.Prelude.{◌≡◌, ℕ, ◌<◌, List, length, Option, Some}
use mathlib.Core.Option.{some}
use lib.ListN.{get_elem?}
use Rattle.turn_steps.specs.declared.view.View.{View}

-- each slot has a value
abbrev pub AllSome : {V : Type 0} → List (Option V) → Type 0
AllSome {V} xs = (t : ℕ) → t < length xs → (x : V) × (get_elem? xs t ≡ some (Some x))

-- it speaks for all callers of the board, in their order
abbrev pub SpeaksForAll : {C : Type 0} → View C → Type 0
SpeaksForAll {C} v = (0 < v.caller_count)
    × ((k : ℕ) → k < v.caller_count → (c : C) × (get_elem? v.speaks k ≡ some (k, c)))
