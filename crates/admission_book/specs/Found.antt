-- The search for the least older open ticket that is against an operation. Only this crate's own
-- functions cite it.
use Rattle.std.specs.Prelude.{◌≡◌, ℕ, ◌≤◌, ◌<◌, List, [], Option, Some, None, ◌⊎◌, slice_index_or}
use Rattle.std.specs.List.{AllByRecursion}
use Rattle.session_values.specs.declared.op.Op.{Op}
use Rattle.symbolic_ops.specs.Commuting.{CommutesWith}
use Rattle.admission_book.specs.Book.{Book, Serving, IsFree, IsFirstAgainst, IsBlocker}
use Rattle.admission_book.specs.declared.blocker.Blocker.{Blocker}

-- the ticket below which no blocker is left to be found
abbrev pub bound : ℕ → Option Blocker → ℕ
bound t None = t
bound t (Some b) = b.older

-- the record has nothing against the operation, where its ticket is below a bound
abbrev pub IsPast : ℕ → Op → Option Serving → Type 0
IsPast limit op None = Unit {0}
IsPast limit op (Some s) = s.ticket < limit → AllByRecursion (λ y. CommutesWith op y) s.foresight

-- the record's ticket, and its first symbol against the operation
abbrev pub IsAgainst : Op → Option Serving → Option Blocker → Type 0
IsAgainst op None r = ⊥
IsAgainst op (Some s) None = ⊥
IsAgainst op (Some s) (Some b) = (s.ticket ≡ b.older) × IsFirstAgainst op s.foresight b.symbol

-- what was found stays where the record has nothing against the operation below it, and else the
-- record's blocker takes its place
abbrev pub NextFound : ℕ → Op → Option Blocker → Option Serving → Option Blocker → Type 0
NextFound t op found s r = ((r ≡ found) × IsPast (bound t found) op s)
    ⊎ ((bound t r < bound t found) × IsAgainst op s r)

abbrev pub book_with : List (Option Serving) → Book
book_with records = record { journal = []; kept = []; records = records }

-- the answer of the search
abbrev pub Found : List (Option Serving) → ℕ → Op → Option Blocker → Type 0
Found records t op None = IsFree (book_with records) t op
Found records t op (Some b) = IsBlocker (book_with records) t op b.older b.symbol

-- a record with the ticket that was found
pub record FoundAt (records : List (Option Serving)) (t : ℕ) (op : Op) (b : Blocker) : Type 0 where
  pub caller : ℕ
  pub serving : Serving
  pub is : slice_index_or records caller None ≡ Some serving
  pub ticket : serving.ticket ≡ b.older
  pub is_older : b.older < t
  pub symbol : IsFirstAgainst op serving.foresight b.symbol

abbrev pub IfFound : List (Option Serving) → ℕ → Op → Option Blocker → Type 0
IfFound records t op None = Unit {0}
IfFound records t op (Some b) = FoundAt records t op b

-- the answer of the search among the first i records
pub record Scanned (records : List (Option Serving)) (t : ℕ) (op : Op) (i : ℕ)
    (found : Option Blocker) : Type 0 where
  pub past : (c : ℕ) → c < i → IsPast (bound t found) op (slice_index_or records c None)
  pub at : IfFound records t op found
  pub older : bound t found ≤ t
