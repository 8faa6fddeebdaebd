-- The open tickets of a desk, as it keeps them.
use Rattle.std.specs.Prelude.{◌≡◌, ℕ, suc, ◌<◌, ◌≤◌, ◌==◌, ◌⊎◌, List, [], ◌∷◌, Option, Some, None, MatchOption, cond, length, slice_get, take}
use Rattle.std.specs.List.{AllByRecursion}
use Rattle.session_values.specs.declared.op.Op.{Op}
use Rattle.symbolic_ops.specs.declared.symbol.Symbol.{Symbol}
use Rattle.symbolic_ops.specs.Commuting.{CommutesWith, SymbolsCommute}
use Rattle.driven_tickets.specs.declared.open_ticket.OpenTicket.{OpenTicket}

-- what a ticket has declared, if it is open
abbrev pub declared_in : List OpenTicket → ℕ → Option (List Symbol)
declared_in [] t = None
declared_in (o ∷ os) t = cond (t == o.ticket) (Some o.declared.symbols) (declared_in os t)

-- the ticket is open, and none below it is
pub record IsOldestOpen (os : List OpenTicket) (t : ℕ) : Type 0 where
  pub list : List Symbol
  pub is : declared_in os t ≡ Some list
  pub least : (u : ℕ) → u < t → declared_in os u ≡ None

-- the ticket is kept at this place
pub record IsAt (os : List OpenTicket) (t : ℕ) (i : ℕ) : Type 0 where
  pub within : i < length os
  pub is : (o : OpenTicket) → slice_get os i ≡ Some o → o.ticket ≡ t
  pub first : declared_in (take i os) t ≡ None

-- the tickets ascend, from n on and below m
abbrev pub AreAscending : ℕ → List OpenTicket → ℕ → Type 0
AreAscending n [] m = n ≤ m
AreAscending n (o ∷ os) m = (n ≤ o.ticket) × AreAscending (suc o.ticket) os m

-- the operation commutes with all that a ticket has declared
abbrev pub IsFreeOf : Op → OpenTicket → Type 0
IsFreeOf op o = AllByRecursion (λ y. CommutesWith op y) o.declared.symbols

-- it commutes with all that the open tickets below t have declared
abbrev pub AreFreeBelow : Op → ℕ → List OpenTicket → Type 0
AreFreeBelow op t os = AllByRecursion (λ (o : OpenTicket). o.ticket < t → IsFreeOf op o) os

-- ticket u is among the open ones, and has declared something against the operation
abbrev pub IsAgainstIn : Op → ℕ → List OpenTicket → Type 0
IsAgainstIn op u [] = ⊥
IsAgainstIn op u (o ∷ os) = ((o.ticket ≡ u) × (IsFreeOf op o → ⊥)) ⊎ IsAgainstIn op u os

-- ticket u is below t and against the operation, and nobody below u is
pub record IsLeastAgainst (op : Op) (t : ℕ) (os : List OpenTicket) (u : ℕ) : Type 0 where
  pub below : u < t
  pub against : IsAgainstIn op u os
  pub least : AreFreeBelow op u os

-- among the first ones that were looked at, nobody below the limit is against the operation, and
-- the limit is the ticket that was found
pub record IsSought (op : Op) (t : ℕ) (os first : List OpenTicket) (found : Option ℕ) (limit : ℕ)
    : Type 0 where
  pub free : AreFreeBelow op limit first
  pub what : MatchOption found (limit ≡ t) (λ u. (u ≡ limit) × (u < t) × IsAgainstIn op u os)

-- all that the one list stands for commutes with all that the other stands for, symbol by symbol
abbrev pub AllPairsCommute : List Symbol → List Symbol → Type 0
AllPairsCommute f g = AllByRecursion (λ x. AllByRecursion (λ y. SymbolsCommute x y) g) f
