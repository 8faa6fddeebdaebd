-- Tickets that never delay one another.
use Rattle.std.specs.Prelude.{◌≡◌, ℕ, ◌<◌, List, [], ◌∷◌, Some, None}
use Rattle.std.specs.List.{AllByRecursion}
use Rattle.session_values.specs.declared.op.Op.{Op}
use Rattle.session_values.specs.Commuting.{Commute}
use Rattle.symbolic_ops.specs.declared.symbol.Symbol.{Symbol}
use Rattle.symbolic_ops.specs.Matching.{Matches}
use Rattle.driven_tickets.specs.Acts.{Act, Begins, Calls, Ends, Narrows}
use Rattle.driven_tickets.specs.Desk.{DeskView, TicketsView, declared}
use Rattle.driven_tickets.specs.Tickets.{declared_in}

-- each operation of one list commutes with each of the other
abbrev pub ListsCommute : List Symbol → List Symbol → Type 0
ListsCommute f g = (a b : Op) → Matches f a → Matches g b → Commute a b

-- what a ticket has declared commutes with what each older open ticket has
abbrev pub CommutesWithOlder : DeskView → ℕ → Type 0
CommutesWithOlder d t = (u : ℕ) (f g : List Symbol) → u < t → declared d t ≡ Some f
    → declared d u ≡ Some g → ListsCommute f g

-- what the tickets declared as they began, in order
abbrev pub begun_in : List Act → List (List Symbol)
begun_in [] = []
begun_in (Begins f ∷ acts) = f ∷ begun_in acts
begun_in (Calls t op v ∷ acts) = begun_in acts
begun_in (Narrows t g ∷ acts) = begun_in acts
begun_in (Ends t ∷ acts) = begun_in acts

-- any two of the lists commute
abbrev pub AllListsCommute : List (List Symbol) → Type 0
AllListsCommute [] = Unit {0}
AllListsCommute (f ∷ fs) = AllByRecursion (λ g. ListsCommute g f) fs × AllListsCommute fs

-- no open ticket is older than this one
abbrev pub IsOldest : DeskView → ℕ → Type 0
IsOldest d t = (u : ℕ) → u < t → declared d u ≡ None

-- what the list stands for commutes with all that the open tickets have declared
abbrev pub IsClear : TicketsView → List Symbol → Type 0
IsClear k f = (t : ℕ) (g : List Symbol) → declared_in k.tickets t ≡ Some g → ListsCommute f g

-- u is the least open ticket that has declared something with which something that the list stands
-- for doesn't commute
pub record IsHeldUpBy (k : TicketsView) (f : List Symbol) (u : ℕ) : Type 0 where
  pub list : List Symbol
  pub is : declared_in k.tickets u ≡ Some list
  pub against : ListsCommute f list → ⊥
  pub least : (t : ℕ) (g : List Symbol) → t < u → declared_in k.tickets t ≡ Some g
      → ListsCommute f g
