-- The final tables of a hall as opening tables.
use Rattle.std.specs.Prelude.{◌≡◌, ℕ, zero, suc, ◌<◌, ◌≤◌, List, [], ◌∷◌, length}
use Rattle.session_values.specs.declared.kind.TableKind.{TableKind}
use Rattle.session_values.specs.Serial.{tables_before}
use Rattle.session_values.specs.Sums.{sum_below}
use Rattle.session_values.specs.Tables.{Tables, size_of, table}
use Rattle.session_values.specs.OpeningLimits.{max_opening}
use Rattle.session_values.specs.Opening.{Pair, entries_of, tables_of}
use Rattle.session_hall.specs.Script.{Meaning, session_of}
use Rattle.session_hall.specs.Closings.{ClosedView, IsDone}
use Rattle.session_hall.specs.Listings.{listed}

-- the tables after a script's tickets were served one at a time
abbrev pub final_of : Meaning → Tables
final_of m = tables_before (session_of m) m.requests

-- a closed hall whose tables are of these kinds, and have few enough keys to open again
pub record CanReopen (shape : List TableKind) (d : ClosedView) : Type 0 where
  pub script : Meaning
  pub shape_is : script.shape ≡ shape
  pub done : IsDone script d
  pub few : sum_below (length shape) (λ t. size_of (table (final_of script) t)) ≤ max_opening

-- the entries with which a closed hall left n tables, from table i on
abbrev pub listed_from : ClosedView → ℕ → ℕ → List (List Pair)
listed_from d i zero = []
listed_from d i (suc n) = listed d i ∷ listed_from d (suc i) n

-- the entries with which it left its first n tables, of each table in their order
abbrev pub left_lists : ℕ → ClosedView → List (List Pair)
left_lists n d = listed_from d 0 n

-- The entries of each table are those with which a closed hall left it, in their order. They make the
-- tables after the tickets of its script were served one at a time.
pub record Reopens (d : ClosedView) (shape : List TableKind) (lists : List (List Pair))
    : Type 0 where
  pub many : length lists ≡ length shape
  pub each : (t : ℕ) → t < length shape → entries_of lists t ≡ listed d t
  pub same : (m : Meaning) → IsDone m d → m.shape ≡ shape → tables_of shape lists ≡ final_of m
