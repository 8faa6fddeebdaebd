-- What renewing the names of a session answers and leaves.
use Rattle.std.specs.Prelude.{◌≡◌, ◌≢◌, ℕ, suc, ◌<◌, ◌⊎◌, true, List, [], ◌∷◌, length, slice_get, Some, Result, Ok, Err}
use Rattle.std.specs.FinMap as map
use Rattle.std.specs.FinSet as set
use Rattle.session_values.specs.declared.value.Value.{Value}
use Rattle.session_values.specs.declared.value.Value.TheVariants.{Sym}
use Rattle.session_values.specs.Opening.{tables_of}
use Rattle.session_values.specs.Tables.{Container, Bindings, Members, Tables, table}
use Rattle.handler_check.specs.Resolved.{shape_of}
use Rattle.driven_tickets.specs.Acts.{idle_tickets}
use Rattle.driven_tickets.specs.Desk.{last_number}
use Rattle.live_session.specs.declared.renewing.RenewError.{RenewError}
use Rattle.live_session.specs.declared.renewing.RenewError.TheVariants as unrenewed
use Rattle.live_session.specs.Live.{LiveView, dump_of}
use Rattle.live_session.specs.Moving.{moved}

-- ---- names that are held

-- a table has the name as a key, as what a key is bound to, or as a member
abbrev pub HoldsName : Container → ℕ → Type 0
HoldsName (Bindings m) i = (k : Value) × (v : Value) × (map.get m k ≡ Some v)
    × ((k ≡ Sym i) ⊎ (v ≡ Sym i))
HoldsName (Members s) i = set.contains s (Sym i) ≡ true

-- the name is one of the handlers', or a table holds it
abbrev pub IsHeld : LiveView → ℕ → Type 0
IsHeld v i = (i < v.handler_names)
    ⊎ ((t : ℕ) × (t < length v.tables) × HoldsName (table v.tables t) i)

-- ---- tables whose names have other places

-- each binding of the first has its own in the second, and each of the second is one of these; the
-- same of members
abbrev pub IsMoved : (ℕ → ℕ) → Container → Container → Type 0
IsMoved f (Bindings m) (Bindings n) =
    ((k v : Value) → map.get m k ≡ Some v → map.get n (moved f k) ≡ Some (moved f v))
    × ((k v : Value) → map.get n k ≡ Some v → (j : Value) × (u : Value) × (map.get m j ≡ Some u)
    × (k ≡ moved f j) × (v ≡ moved f u))
IsMoved f (Bindings m) (Members s) = ⊥
IsMoved f (Members s) (Bindings m) = ⊥
IsMoved f (Members s) (Members t) =
    ((k : Value) → set.contains s k ≡ true → set.contains t (moved f k) ≡ true)
    × ((k : Value) → set.contains t k ≡ true → (j : Value) × (set.contains s j ≡ true)
    × (k ≡ moved f j))

-- so of each table
abbrev pub AreMoved : (ℕ → ℕ) → Tables → Tables → Type 0
AreMoved f [] [] = Unit {0}
AreMoved f [] (d ∷ us) = ⊥
AreMoved f (c ∷ ts) [] = ⊥
AreMoved f (c ∷ ts) (d ∷ us) = IsMoved f c d × AreMoved f ts us

-- ---- a renewal

-- The names that are held have new numbers, different ones, under which they have their texts; those
-- of the handlers keep theirs; and there are no other names. The tables are the same under these
-- numbers, entry by entry, so a dump writes the same text. From now on the session is one that has
-- opened with these tables and names, whose tickets so far have done nothing
pub record IsRenewed (v w : LiveView) : Type 0 where
  pub number : ℕ → ℕ
  pub texts_still : (i : ℕ) → IsHeld v i → slice_get w.names (number i) ≡ slice_get v.names i
  pub apart : (i j : ℕ) → IsHeld v i → IsHeld v j → number i ≡ number j → i ≡ j
  pub handlers_kept : (i : ℕ) → i < v.handler_names → number i ≡ i
  pub no_other : (j : ℕ) → j < length w.names → (i : ℕ) × IsHeld v i × (number i ≡ j)
  pub tables_are : AreMoved number v.tables w.tables
  pub dump_still : dump_of w ≡ dump_of v
  pub opened_are : w.tables ≡ tables_of (shape_of w.file) w.opened
  pub first_are : w.first_names ≡ w.names
  pub tickets_are : w.tickets ≡ record {
    next = v.tickets.next;
    tickets = [];
    acts = idle_tickets v.tickets.next;
  }
  pub none_driven : w.driven ≡ 0
  pub no_lines : w.lines ≡ []
  pub no_replies : w.replies ≡ []
  pub generation_is : w.generation ≡ suc v.generation
  pub file_still : w.file ≡ v.file
  pub lists_still : w.lists ≡ v.lists
  pub handlers_still : w.handler_names ≡ v.handler_names
  pub most_still : w.most_names ≡ v.most_names
  pub seed_still : w.seed ≡ v.seed
  pub factors_still : w.factors ≡ v.factors

-- the names are renewed, where no ticket is open and a generation is left; or nothing changes, since
-- a ticket is open, or no generation is left, or memory ran out
abbrev pub RenewAnswered : LiveView → LiveView → Result (Unit {0}) RenewError → Type 0
RenewAnswered v w (Ok done) =
    (v.tickets.tickets ≡ []) × (v.generation < last_number) × IsRenewed v w
RenewAnswered v w (Err unrenewed.Open) = (w ≡ v) × (v.tickets.tickets ≢ [])
RenewAnswered v w (Err unrenewed.NoNumber) =
    (w ≡ v) × (v.tickets.tickets ≡ []) × (v.generation ≡ last_number)
RenewAnswered v w (Err unrenewed.NoMemory) =
    (w ≡ v) × (v.tickets.tickets ≡ []) × (v.generation < last_number)
