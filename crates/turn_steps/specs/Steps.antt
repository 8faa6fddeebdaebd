-- What each step makes of a view, and what it tells.
use Rattle.std.specs.Prelude.{◌≡◌, ℕ, ◌+◌, ◌<◌, ◌≤◌, ◌==◌, ◌&&◌, cond, ltb, suc, List, [], ◌∷◌, ◌++◌, length, Option, Some, None, slice_get, slice_index_or, slice_set}
use mathlib.Core.Option.{some}
use lib.ListN.{get_elem?}
use Rattle.std.specs.Int.{bit_at}
use Rattle.atomic_table.specs.Table.{Me, rest}
use Rattle.turn_steps.specs.declared.view.View.{View}
use Rattle.turn_steps.specs.declared.view.Place.{Place}
use Rattle.turn_steps.specs.declared.view.Place.TheVariants.{Vacant, Away, Lies}
use Rattle.turn_steps.specs.Maps.{row, overlay, FitsTurns}
use Rattle.turn_steps.specs.Tied.{counted, place, idle}

module _ {C : Type 0} where
  abbrev pub lies : Option C → Place C
  lies None = Vacant
  lies (Some c) = Lies c

  -- how often a turn was asked for and found in another seat's hand
  abbrev pub lost_at : View C → ℕ → ℕ
  lost_at v t = slice_index_or v.lost t 0

  -- one more, where another seat holds the turn
  abbrev pub one_more_lost : Option C → ℕ → ℕ
  one_more_lost None n = n + 1
  one_more_lost (Some c) n = n

  -- a turn of the set was found free
  abbrev pub asked_view : ℕ → ℕ → ℕ → List C → View C → View C
  asked_view turns set found contents v = record {
    speaks = v.speaks;
    counts = row 0 turns (λ t. cond ((bit_at set t == 1) && (bit_at found t == 0))
        (slice_get contents t) (counted v t));
    places = row 0 turns (λ t. cond ((bit_at set t == 1) && (bit_at found t == 0))
        (lies (slice_get contents t)) (place v t));
    lost = row 0 turns (λ t. cond ((bit_at set t == 1) && (bit_at found t == 1))
        (one_more_lost (counted v t) (lost_at v t)) (lost_at v t));
    given = v.given;
    caller_count = v.caller_count;
    asks = v.asks + 1;
    givings = v.givings;
    change = v.change;
  }

  -- the turns that the mask lacks are given back, and the others have new contents
  abbrev pub given_view : ℕ → ℕ → (ℕ → Option C) → List (ℕ × C) → ℕ → ℕ × List C → View C → View C
  given_view turns mask new speaks given change v = record {
    speaks = speaks;
    counts = row 0 turns (λ t. cond (bit_at mask t == 0) None (new t));
    places = row 0 turns (λ t. cond (bit_at mask t == 0) Vacant (place v t));
    lost = v.lost;
    given = given;
    caller_count = v.caller_count;
    asks = v.asks;
    givings = v.givings + 1;
    change = change;
  }

  -- the value of a turn is at another place
  abbrev pub put_place : ℕ → Place C → View C → View C
  put_place t p v = record {
    speaks = v.speaks;
    counts = v.counts;
    places = slice_set v.places t p;
    lost = v.lost;
    given = v.given;
    caller_count = v.caller_count;
    asks = v.asks;
    givings = v.givings;
    change = v.change;
  }

  -- the note of the first caller
  abbrev pub note_of : List (ℕ × C) → Option C
  note_of [] = None
  note_of (x ∷ xs) = Some x.1

  -- the number of the first caller
  abbrev pub caller_of : List (ℕ × C) → ℕ
  caller_of [] = 0
  caller_of (x ∷ xs) = x.0

  -- the one caller has the note
  abbrev pub noted : Option C → List (ℕ × C) → List (ℕ × C)
  noted None xs = xs
  noted (Some c) [] = []
  noted (Some c) (x ∷ xs) = (x.0, c) ∷ xs

  abbrev pub tail : List (ℕ × C) → List (ℕ × C)
  tail [] = []
  tail (x ∷ xs) = xs

  abbrev pub head : List (ℕ × C) → List (ℕ × C)
  head [] = []
  head (x ∷ xs) = x ∷ []

  -- a seat loses its first caller and keeps its counts
  abbrev pub left_view : View C → View C
  left_view v = record {
    speaks = tail v.speaks;
    counts = v.counts;
    places = v.places;
    lost = v.lost;
    given = v.given;
    caller_count = v.caller_count;
    asks = v.asks;
    givings = v.givings;
    change = v.change;
  }

  -- the new seat: it holds nothing, and has asked for nothing
  abbrev pub right_view : View C → View C
  right_view v = idle (length v.counts) v.caller_count v.change (head v.speaks)

  -- of two changes the later one
  abbrev pub later : ℕ × List C → ℕ × List C → ℕ × List C
  later a b = cond (ltb a.0 b.0) b a

  -- a seat has the callers of another one too, and its counts beside its own
  abbrev pub both_views : View C → View C → View C
  both_views v w = record {
    speaks = w.speaks ++ v.speaks;
    counts = v.counts;
    places = v.places;
    lost = row 0 (length v.counts) (λ t. lost_at v t + lost_at w t);
    given = v.given + w.given;
    caller_count = v.caller_count;
    asks = v.asks + w.asks;
    givings = v.givings + w.givings;
    change = later v.change w.change;
  }

  -- what a seat is left with whose callers another one has
  abbrev pub spent_view : View C
  spent_view = idle 0 0 (0, []) []

  -- what the rule tells of a view: it holds of some contents and notes, and those of the view are
  -- among them
  pub record Told (holds : List C → List C → Type 0) (turns : ℕ) (v : View C) : Type 0 where
    pub contents : List C
    pub notes : List C
    pub tied : holds contents notes
    pub turns_is : length contents ≡ turns
    pub own : (t : ℕ) (c : C) → counted v t ≡ Some c → slice_get contents t ≡ Some c
    pub spoken : (i k : ℕ) (c : C) → get_elem? v.speaks i ≡ some (k, c)
        → (length notes ≡ v.caller_count) × (slice_get notes k ≡ Some c)

abbrev pub Sits : Type 0 → Type 0 → Type 0
Sits V C = Me (Option V) (View C)

-- the place of a slot at home with this in it
abbrev pub lies_as : {V C : Type 0} → (V → C) → Option V → Place C
lies_as content None = Vacant
lies_as content (Some x) = Lies (content x)

module _ {V C : Type 0} where
  -- a set of turns is asked for by setting bits, on a board of so many turns
  abbrev pub asked : (List C → List C → Type 0) → ℕ → ℕ → Sits V C → ℕ → Sits V C → Type 0
  asked holds turns set m found m' =
      (contents : List C) × (length contents ≡ turns)
      × (m' ≡ (asked_view turns set found contents m.0, m.1)) × Told holds turns m'.0
      × (m.0.caller_count ≡ 1 → ((x : ℕ × C) × (xs : List (ℕ × C)) × (m.0.speaks ≡ x ∷ xs))
      → (t : ℕ) → t < turns → bit_at found t ≡ 1 → (c : C) × (counted m.0 t ≡ Some c))

  -- the slot of a held turn is taken
  abbrev pub reached : (V → C) → ℕ → Sits V C → Sits V C → Type 0
  reached content t m m' = (y : Option V) × (m' ≡ (put_place t Away m.0, (t, y) ∷ m.1))
      × (lies_as content y ≡ place m.0 t)

  -- the slot that was taken last is at home again
  abbrev pub laid_view : (V → C) → List (ℕ × Option V) → View C → View C
  laid_view content [] v = v
  laid_view content (x ∷ xs) v = put_place x.0 (lies_as content x.1) v

  abbrev pub laid : (V → C) → Sits V C → Sits V C → Type 0
  laid content m m' = m' ≡ (laid_view content m.1 m.0, rest m.1)

  -- turns are given back by clearing the bits that a mask lacks, with the contents that they had
  abbrev pub returned : ℕ → ℕ → Sits V C → Sits V C → Type 0
  returned turns mask m m' = m' ≡ (
    given_view turns mask (counted m.0) m.0.speaks m.0.given m.0.change m.0,
    m.1,
  )

  -- the book is given back, and the turns that the seat holds have new contents: this is the change
  -- after n others, of these contents
  abbrev pub booked : (ℕ → Option C) → ℕ → ℕ → Sits V C → Sits V C → Type 0
  booked new turns mask m m' =
      (n : ℕ) × (contents : List C)
      × (m' ≡ (
        given_view turns mask new (noted (new 0) m.0.speaks) (m.0.given + 1)
            (suc n, overlay new contents) m.0,
        m.1,
      ))
      × (m.0.change.0 ≤ n) × (length contents ≡ turns) × FitsTurns contents (counted m.0)
