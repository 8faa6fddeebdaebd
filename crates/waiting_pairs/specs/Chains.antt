-- Chains of tickets of which each waited for the next.
use Rattle.std.specs.Prelude.{◌≡◌, ℕ, ◌<◌, ◌≤◌, ◌⊎◌, List, [], ◌∷◌, length, map, Contains}
use Rattle.std.specs.List.{All}
use Rattle.std.specs.List.Sorted.{IsStrictlyIncreasing}
use Rattle.waiting_pairs.specs.declared.delay.Delay.{Delay}

-- in one of these delays this ticket, a request's, waited for this one, which is older
pub record Waited (tickets : ℕ) (ds : List Delay) (ticket older : ℕ) : Type 0 where
  pub delay : Delay
  pub among : Contains ds delay
  pub ticket_is : delay.ticket ≡ ticket
  pub older_is : delay.older ≡ older
  pub is_older : older < ticket
  pub is_request : ticket < tickets

-- the ticket waited for the first of these, that one for the second, and so on
abbrev pub AreLinked : ℕ → List Delay → ℕ → List ℕ → Type 0
AreLinked tickets ds t [] = Unit {0}
AreLinked tickets ds t (u ∷ us) = Waited tickets ds t u × AreLinked tickets ds u us

-- two tickets or more, of which each waited for the next
abbrev pub IsChain : ℕ → List Delay → List ℕ → Type 0
IsChain tickets ds [] = ⊥
IsChain tickets ds (t ∷ []) = ⊥
IsChain tickets ds (t ∷ u ∷ us) = AreLinked tickets ds t (u ∷ us)

-- no chain has more tickets
abbrev pub IsLongest : ℕ → List Delay → List ℕ → Type 0
IsLongest tickets ds c = IsChain tickets ds c
    × ((d : List ℕ) → IsChain tickets ds d → length d ≤ length c)

-- the ticket with which a chain begins
abbrev pub head_of : List ℕ → ℕ
head_of [] = 0
head_of (t ∷ ts) = t

-- the most chains that are told
abbrev pub most_chains : ℕ
most_chains = 3

-- a chain begins with the ticket with which one of these begins, or they are as many as are told
-- and begin with lesser ones
abbrev pub IsTold : List (List ℕ) → List ℕ → Type 0
IsTold chains c = Contains (map head_of chains) (head_of c)
    ⊎ ((length chains ≡ most_chains) × All (λ d. head_of d < head_of c) chains)

-- the longest chains, one of each first ticket, the least first ticket first, and at most three
pub record AreLongest (tickets : ℕ) (ds : List Delay) (chains : List (List ℕ)) : Type 0 where
  pub longest : All (IsLongest tickets ds) chains
  pub rising : IsStrictlyIncreasing (map head_of chains)
  pub few : length chains ≤ most_chains
  pub no_others : (c : List ℕ) → IsLongest tickets ds c → IsTold chains c
