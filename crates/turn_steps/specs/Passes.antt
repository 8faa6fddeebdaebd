-- What a pass knows, and how many turns there are.
use Rattle.std.specs.Prelude.{◌≡◌, ℕ, [], ◌∷◌, length, Option, None}
use Rattle.atomic_table.specs.Seated.{TableId}
use Rattle.atomic_table.specs.declared.shared.Seat.{Seat}
use Rattle.turn_steps.specs.declared.view.View.{View}
use Rattle.turn_steps.specs.declared.words.Words.{Words}
use Rattle.turn_steps.specs.declared.view.Place.TheVariants.{Vacant}
use Rattle.turn_steps.specs.Tied.{counted, place}
use Rattle.turn_steps.specs.Steps.{lost_at, note_of, caller_of}

-- what the table gives each seat
abbrev pub Token : Type 0 → Type 0 → Type 0
Token V C = Seat (Option V) (View C)

-- it is of this table, has no slot out, and speaks for one caller
pub record Placed {V C : Type 0} (id : TableId) (p : Token V C) : Type 0 where
  pub of_table : p.table_id ≡ id
  pub empty : p.me.1 ≡ []
  pub counts : length p.me.0.counts ≡ id.slots
  pub places : length p.me.0.places ≡ id.slots
  pub losses : length p.me.0.lost ≡ id.slots
  pub one : (k : ℕ) × (c : C) × (p.me.0.speaks ≡ (k, c) ∷ [])

-- the same between two calls: each value that the seat holds is out
pub record IsSeated {V C : Type 0} (id : TableId) (p : Token V C) : Type 0 where
  pub placed : Placed id p
  pub vacant : (t : ℕ) → place p.me.0 t ≡ Vacant

-- it is of this table, has no slot out and holds no turn, for any number of callers
pub record IdleFirst {V C : Type 0} (id : TableId) (p : Token V C) : Type 0 where
  pub of_table : p.table_id ≡ id
  pub empty : p.me.1 ≡ []
  pub counts : length p.me.0.counts ≡ id.slots
  pub places : length p.me.0.places ≡ id.slots
  pub losses : length p.me.0.lost ≡ id.slots
  pub vacant : (t : ℕ) → place p.me.0 t ≡ Vacant
  pub none_held : (t : ℕ) → counted p.me.0 t ≡ None

module _ {V C : Type 0} where
  -- the counted contents of the turns that it holds
  abbrev pub held : Token V C → ℕ → Option C
  held p = counted p.me.0

  -- the note of its caller
  abbrev pub note : Token V C → Option C
  note p = note_of p.me.0.speaks

  -- the number of its caller
  abbrev pub caller : Token V C → ℕ
  caller p = caller_of p.me.0.speaks

  -- how often it found a turn in the hand of another
  abbrev pub lost : Token V C → ℕ → ℕ
  lost p = lost_at p.me.0

module _ {V R C : Type 0} where
  -- which table it is
  abbrev pub id_of : Words V R C → TableId
  id_of w = w.table.shared.table_id

  -- the number of turns
  abbrev pub turns_of : Words V R C → ℕ
  turns_of w = w.table.shared.table_id.slots
