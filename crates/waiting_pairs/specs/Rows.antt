-- Delays counted by their causes.
use Rattle.std.specs.Prelude.{ℕ, Bool, List, [], ◌∷◌, Option, map, count_by, not, slice_get, unwrap_or}
use Rattle.std.specs.List.{filter}
use Rattle.std.specs.Map.{lookup}
use Rattle.std.specs.Option.{option_map}
use Rattle.std.specs.List.Sorted.{IsPermutation, IsSortedByKey, IsStableByKey}
use Rattle.std.specs.Ordering.{nat_cmp}
use Rattle.std.specs.declared.cmp.Ordering.{Ordering}
use Rattle.waiting_pairs.specs.declared.cause.Cause.{Cause}
use Rattle.waiting_pairs.specs.declared.counting.Row.{Row}
use Rattle.waiting_pairs.specs.Causes.{is_same}

-- the elements, those that are the same once, in the order in which they come first
abbrev pub distinct : {X : Type 0} → (X → X → Bool) → List X → List X
distinct same [] = []
distinct same (x ∷ xs) = x ∷ filter (λ y. not (same x y)) (distinct same xs)

-- the causes, each once, in the order in which they come first
abbrev pub firsts : List Cause → List Cause
firsts causes = distinct is_same causes

-- the row of a cause: how many of these are the same
abbrev pub row_of : List Cause → Cause → Row
row_of causes c = record { cause = c; count = count_by (is_same c) causes }

-- a row for each cause, in the order in which they come first
abbrev pub tally : List Cause → List Row
tally causes = map (row_of causes) (firsts causes)

-- the larger count first
abbrev pub larger_first : ℕ → ℕ → Ordering
larger_first m n = nat_cmp n m

-- the rows are those of the tally, the largest count first, and equal ones in the same order
pub record AreRows (causes : List Cause) (rows : List Row) : Type 0 where
  pub same : IsPermutation (tally causes) rows
  pub sorted : IsSortedByKey (λ (r : Row). r.count) larger_first rows
  pub stable : IsStableByKey (λ (r : Row). r.count) larger_first (tally causes) rows

-- ---- what the code keeps; only this crate's own functions cite it
-- how many an entry says there are of a cause; 0 where there is none
abbrev pub count_in : List (Cause × ℕ) → Cause → ℕ
count_in es c = unwrap_or (lookup (is_same c) es) 0

-- an entry for each cause, in the order in which they come first
abbrev pub counted : List Cause → List (Cause × ℕ)
counted causes = map (λ c. (c, count_by (is_same c) causes)) (firsts causes)

-- the row of an entry
abbrev pub row_in : Cause × ℕ → Row
row_in e = record { cause = e.0; count = e.1 }

abbrev pub row_at : List (Cause × ℕ) → ℕ → Option Row
row_at es at = option_map row_in (slice_get es at)
