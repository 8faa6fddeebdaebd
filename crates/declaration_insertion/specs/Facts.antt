-- What is known of the declarations of points beside their symbols.
use Rattle.std.specs.Prelude.{◌≡◌, ◌≢◌, ◌↔◌, ℕ, ◌-◌, ◌<◌, ◌≤◌, Bool, ◌==◌, false, List, [], ◌∷◌, length, slice_index_or}
use Rattle.std.specs.Bool.{OnFalse, OnTrue}
use Rattle.std.specs.List.{AllByRecursion}
use Rattle.std.specs.List.Sorted.{IsStrictlySortedBy}
use Rattle.std.specs.Ordering.{eq_of_both, on}
use Rattle.std.specs.Set.{distinct_count}
use Rattle.session_values.specs.Kinds.{kind_place}
use Rattle.session_values.specs.Limits.{max_symbols}
use Rattle.symbolic_ops.specs.Order.{symbol_cmp}
use Rattle.symbolic_ops.specs.declared.symbol.Symbol.{Symbol}
use Rattle.declaration_insertion.specs.declared.facts.PointFacts.{PointFacts}
use Rattle.declaration_insertion.specs.Promises.{Declarations, listed}

-- the two are of different kinds or on different tables
abbrev pub IsOther : Symbol → Symbol → Type 0
IsOther s t = s.kind ≡ t.kind → s.table ≡ t.table → ⊥

-- whether two symbols are of one kind, on one table
abbrev pub is_same_kind : Symbol → Symbol → Bool
is_same_kind = eq_of_both (on (λ s. kind_place s.kind) ◌==◌) (on (λ s. s.table) ◌==◌)

-- how many different kinds the list names, where a kind counts once for each of its tables
abbrev pub kinds_in : List Symbol → ℕ
kinds_in list = distinct_count is_same_kind list

-- no two symbols of the list are of one kind on one table
abbrev pub NamesEachOnce : List Symbol → Type 0
NamesEachOnce [] = Unit {0}
NamesEachOnce (s ∷ list) = AllByRecursion (IsOther s) list × NamesEachOnce list

-- in a list of more symbols it isn't looked whether it names each kind once
abbrev pub looked_at : ℕ
looked_at = 16

-- from the first point on, up to the other one, the same is declared at each, and something else
-- right before the first
pub record IsAlike (declared : Declarations) (first point : ℕ) : Type 0 where
  pub within : first ≤ point
  pub same : (q : ℕ) → first ≤ q → q ≤ point → declared q ≡ declared point
  pub least : 0 < first → declared (first - 1) ≢ declared first

-- each list is in order, with each symbol once, and has at most 256
abbrev pub AreInOrder : List (List Symbol) → Type 0
AreInOrder lists = (p : ℕ) → p < length lists
    → IsStrictlySortedBy symbol_cmp (listed lists p) × (length (listed lists p) ≤ max_symbols)

-- the facts of a point
pub record HasFacts (declared : Declarations) (point : ℕ) (f : PointFacts) : Type 0 where
  pub alike : IsAlike declared f.alike point
  pub kinds : f.kinds ≡ kinds_in (declared point)
  pub nothing : (f.kinds ≡ 0) ↔ (declared point ≡ [])
  pub once : OnTrue f.once (NamesEachOnce (declared point))
  pub twice : OnFalse f.once (length (declared point) ≤ looked_at
      → NamesEachOnce (declared point) → ⊥)

-- where there is no point
abbrev pub no_facts : PointFacts
no_facts = record { alike = 0; kinds = 0; once = false }

-- the facts of each point of a handler
pub record AreFacts (lists : List (List Symbol)) (facts : List PointFacts) : Type 0 where
  pub count : length facts ≡ length lists
  pub each : (p : ℕ) → p < length facts
      → HasFacts (listed lists) p (slice_index_or facts p no_facts)

-- the facts of each handler
pub record AreAllFacts (all : List (List (List Symbol)))
    (facts : List (List PointFacts)) : Type 0 where
  pub count : length facts ≡ length all
  pub each : (h : ℕ) → h < length facts
      → AreFacts (slice_index_or all h []) (slice_index_or facts h [])
