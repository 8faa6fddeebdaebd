-- The rule of a board.
use Rattle.std.specs.Prelude.{◌≡◌, ℕ, zero, suc, ◌<◌, ◌≤◌, List, [], ◌∷◌, length, Option, Some, None, slice_get, slice_index, slice_index_or}
use mathlib.Core.Option.{some}
use mathlib.Core.Option as maybe
use lib.ListN.{get_elem?}
use Rattle.std.specs.Int.{bit_at}
use Rattle.atomic_table.specs.Table.{State}
use Rattle.turn_steps.specs.declared.view.View.{View}
use Rattle.turn_steps.specs.declared.view.Place.{Place}
use Rattle.turn_steps.specs.declared.view.Place.TheVariants.{Vacant, Away, Lies}
use Rattle.turn_steps.specs.Limits.{max_board_turns}
use Rattle.turn_steps.specs.Maps.{row}

module _ {C : Type 0} where
  -- the callers from the k-th on, n of them, with one note
  abbrev pub all_speak : ℕ → ℕ → C → List (ℕ × C)
  all_speak k zero note = []
  all_speak k (suc n) note = (k, note) ∷ all_speak (suc k) n note

  -- a view that holds no turn of a board of so many turns
  abbrev pub idle : ℕ → ℕ → ℕ × List C → List (ℕ × C) → View C
  idle turns caller_count change speaks = record {
    speaks = speaks;
    counts = row 0 turns (λ _. None);
    places = row 0 turns (λ _. Vacant);
    lost = row 0 turns (λ _. 0);
    given = 0;
    caller_count = caller_count;
    asks = 0;
    givings = 0;
    change = change;
  }

  -- to open a board is the first change of its counted contents
  abbrev pub first_view : ℕ → ℕ → C → List C → View C
  first_view turns caller_count note contents = idle turns caller_count (1, contents)
      (all_speak 0 caller_count note)

  -- the counted content of a turn, where the seat holds it
  abbrev pub counted : View C → ℕ → Option C
  counted v t = slice_index_or v.counts t None

  -- where the value of a turn that the seat holds is
  abbrev pub place : View C → ℕ → Place C
  place v t = slice_index_or v.places t Vacant

module _ {V C : Type 0} (content : V → C) (homes : List (maybe.Option (Option V))) where
  -- a value with the content c lies in the slot t
  abbrev pub Lying : ℕ → C → Type 0
  Lying t c = (x : V) × (get_elem? homes t ≡ some (some (Some x))) × (content x ≡ c)

  abbrev pub InPlace : ℕ → Place C → Type 0
  InPlace t Vacant = get_elem? homes t ≡ some (some None)
  InPlace t Away = Unit {0}
  InPlace t (Lies c) = Lying t c

-- a view's change is none later than the last one, and where it is the last one it left the
-- contents
abbrev pub Left : {C : Type 0} → ℕ → List C → View C → Type 0
Left now contents v = (v.change.0 ≤ now) × (v.change.0 ≡ now → v.change.1 ≡ contents)

module _ {V C : Type 0} (content : V → C) (caller_count : ℕ) (owner seat_of : ℕ → ℕ) (contents notes : List C) (s : State (Option V) (View C)) where
  -- the owner of a turn is 0 where it is free, and else one more than the caller
  abbrev pub TurnOk : ℕ → ℕ → Type 0
  TurnOk t zero = (bit_at (slice_index s.words 7) t ≡ 0)
      × ((c : C) × (slice_get contents t ≡ Some c) × Lying content s.homes t c)
  TurnOk t (suc k) = (bit_at (slice_index s.words 7) t ≡ 1) × (k < caller_count)
      × ((v : View C) × (c : C) × (get_elem? s.views (seat_of k) ≡ some v) × (counted v t ≡ Some c))

  -- the view of seat j: it speaks for callers of that seat, with their notes; each turn that it
  -- holds has the content that it counts, lies where it says, and is owned by a caller of that seat
  pub record ViewOk (j : ℕ) (v : View C) : Type 0 where
    pub spoken : (i k : ℕ) (c : C) → get_elem? v.speaks i ≡ some (k, c)
        → (v.caller_count ≡ caller_count) × (k < caller_count) × (seat_of k ≡ j)
        × (slice_get notes k ≡ Some c)
    pub held : (t : ℕ) (c : C) → counted v t ≡ Some c
        → (t < length s.homes) × (slice_get contents t ≡ Some c)
        × InPlace content s.homes t (place v t) × ((k : ℕ) × (owner t ≡ suc k) × (seat_of k ≡ j))

-- a view speaks for the caller k, that of its seat: with its note, as `spoken` says
abbrev pub Heard : {C : Type 0} → (ℕ → ℕ) → List (View C) → ℕ → Type 0
Heard {C} seat_of views k = (v : View C) × (i : ℕ) × (c : C)
    × (get_elem? views (seat_of k) ≡ some v) × (get_elem? v.speaks i ≡ some (k, c))

-- the rule of the table: its words, slots and views fit one list of contents and one of notes, of
-- which the owner's rule holds
pub record Tied {V C : Type 0} (content : V → C) (holds : List C → List C → Type 0)
    (caller_count : ℕ) (s : State (Option V) (View C)) : Type 0 where
  pub owner : ℕ → ℕ
  pub seat_of : ℕ → ℕ
  pub contents : List C
  pub notes : List C
  -- the number of the last change of counted contents
  pub now : ℕ
  pub words : length s.words ≡ 15
  pub turns : length contents ≡ length s.homes
  pub small : length s.homes ≤ max_board_turns
  pub callers : length notes ≡ caller_count
  pub tied : holds contents notes
  pub each_turn : (t : ℕ) → t < length s.homes
      → TurnOk content caller_count owner seat_of contents notes s t (owner t)
  pub each_view : (j : ℕ) (v : View C) → get_elem? s.views j ≡ some v
      → ViewOk content caller_count owner seat_of contents notes s j v
  pub each_caller : (k : ℕ) → k < caller_count → Heard seat_of s.views k
  pub opened : 0 < now
  pub changes : (j : ℕ) (v : View C) → get_elem? s.views j ≡ some v → Left now contents v
  pub latest : (j : ℕ) × (v : View C) × (get_elem? s.views j ≡ some v) × (v.change.0 ≡ now)
