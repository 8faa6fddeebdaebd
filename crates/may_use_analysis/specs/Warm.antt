-- Lists at the heads of loops that are kept from an earlier walk, so that the next one begins with
-- them. Only this crate's own functions cite it.
use Rattle.std.specs.Prelude.{◌≡◌, ◌≢◌, ℕ, ◌<◌, ◌≤◌, ◌⊎◌, List, [], Contains, slice_index_or}
use Rattle.symbolic_ops.specs.declared.symbol.Symbol.{Symbol}
use Rattle.check_meaning.specs.Code.{Code, Finish, Move, Ask, Fork, Loop, Quit}
use Rattle.may_use_analysis.specs.Flow.{Flow, Head}
use Rattle.may_use_analysis.specs.Trails.{Symbols}

-- the kept list of the loop whose point has this number
abbrev pub HeadAt : List (List Symbol) → ℕ → Symbols
HeadAt heads p = Contains (slice_index_or heads p [])

-- the kept list of each loop lies within the set at its head, and those of the loops inside it are
-- kept from a walk that began with it or with less
abbrev pub AreWarm : List (List Symbol) → Code → Symbols → Type 0
AreWarm heads Finish after = Unit {0}
AreWarm heads (Move x e rest) after = AreWarm heads rest after
AreWarm heads (Ask at p x c rest) after = AreWarm heads rest after
AreWarm heads (Fork at p q test a b rest) after = AreWarm heads a (Flow rest after)
    × AreWarm heads b (Flow rest after) × AreWarm heads rest after
AreWarm heads (Loop at p n x body rest) after =
    ((s : Symbol) → HeadAt heads p s → Head x body (Flow rest after) s)
    × AreWarm heads body (HeadAt heads p) × AreWarm heads rest after
AreWarm heads (Quit es rest) after = AreWarm heads rest after

-- what is kept of loops with other numbers is as it was
abbrev pub SameOutside : (old new : List (List Symbol)) → ℕ → ℕ → Type 0
SameOutside old new low high = (i : ℕ) → (i < low) ⊎ (high ≤ i)
    → slice_index_or new i [] ≡ slice_index_or old i []

-- what was kept and is warm where a walk begins with these symbols and others stays so
abbrev pub StaysWarm : Code → List Symbol → (old new : List (List Symbol)) → Type 0
StaysWarm code begin old new = (base : List Symbol) → ((s : Symbol) → Contains begin s → Contains base s)
    → AreWarm old code (Contains base) → AreWarm new code (Contains base)

-- these symbols were taken into the kept list of a loop, and some of them are given back as new
pub record IsTakenIn (p : ℕ) (symbols : List Symbol) (old new : List (List Symbol)) (fresh : List Symbol) : Type 0 where
  pub given : (s : Symbol) → Contains fresh s → Contains symbols s
  pub there : (s : Symbol) → Contains fresh s → HeadAt new p s
  pub kept : (s : Symbol) → HeadAt old p s → HeadAt new p s
  pub within : (s : Symbol) → HeadAt new p s → HeadAt old p s ⊎ Contains symbols s
  pub others : (i : ℕ) → i ≢ p → slice_index_or new i [] ≡ slice_index_or old i []
