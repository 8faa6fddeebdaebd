-- The tickets with which the longest chains begin. Only this crate's own functions cite it.
use Rattle.std.specs.Prelude.{◌≡◌, ℕ, ◌<◌, ◌≤◌, ◌==◌, nat_lt, Bool, ◌&&◌, ◌⊎◌, List, length, map, Contains}
use Rattle.std.specs.List.{All}
use Rattle.std.specs.List.Sorted.{IsStrictlyIncreasing}
use Rattle.waiting_pairs.specs.declared.links.Step.{Step}
use Rattle.waiting_pairs.specs.Chains.{most_chains}
use Rattle.waiting_pairs.specs.Steps.{step_at, way}

-- none of the first counts is larger, and one of them is this, or it is 0
pub record IsMostOf (table : List Step) (i most : ℕ) : Type 0 where
  pub above : (t : ℕ) → t < i → (step_at table t).count ≤ most
  pub reached : (most ≡ 0) ⊎ ((t : ℕ) × (t < i) × ((step_at table t).count ≡ most))

-- so it is with all counts of a table
abbrev pub IsMost : List Step → ℕ → Type 0
IsMost table most = IsMostOf table (length table) most

-- a ticket is one of these, or they are as many as chains are told, and all are less
abbrev pub IsHead : List ℕ → ℕ → Type 0
IsHead heads t = Contains heads t ⊎ ((length heads ≡ most_chains) × All (λ h. h < t) heads)

-- the first tickets below one that have this count, as many as chains are told; none if it is 0
pub record AreHeads (table : List Step) (most below : ℕ) (heads : List ℕ) : Type 0 where
  pub have : All (λ h. (h < below) × ((step_at table h).count ≡ most) × (0 < most)) heads
  pub rising : IsStrictlyIncreasing heads
  pub few : length heads ≤ most_chains
  pub no_others : (t : ℕ) → t < below → (step_at table t).count ≡ most → 0 < most → IsHead heads t

-- whether a ticket joins these
abbrev pub is_due : List Step → ℕ → ℕ → List ℕ → Bool
is_due table t most heads =
    (step_at table t).count == most && nat_lt 0 most && nat_lt (length heads) most_chains

-- the ways from the first tickets that have the largest count
pub record AreWays (table : List Step) (chains : List (List ℕ)) : Type 0 where
  pub most : ℕ
  pub is_most : IsMost table most
  pub heads : List ℕ
  pub are_heads : AreHeads table most (length table) heads
  pub are_ways : chains ≡ map (way table) heads
