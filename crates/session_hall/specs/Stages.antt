-- What a caller has and holds at each stage.
use Rattle.std.specs.Prelude.{◌≡◌, ℕ, ◌≤◌, List, [], Option, Some, None}
use Rattle.session_values.specs.declared.op.Op.{Op}
use Rattle.symbolic_ops.specs.declared.symbol.Symbol.{Symbol}
use Rattle.session_journal.specs.Journal.{begun}
use Rattle.session_journal.specs.Script.{Meaning}
use Rattle.admission_book.specs.Book.{Book, Serving, record_of}
use Rattle.turn_board.specs.declared.seat.Seat.{Seat}
use Rattle.turn_board.specs.Boards.{held, caller}
use Rattle.turn_board.specs.Hands.{in_hands}
use Rattle.hall_rule.specs.declared.held.Held.{Held}
use Rattle.hall_rule.specs.declared.hall_rule.HallRule.{HallRule}
use Rattle.hall_rule.specs.Contents.{Content}
use Rattle.hall_rule.specs.Shards.{content_of}
use Rattle.hall_rule.specs.Turns.{WasDone}
use Rattle.session_hall.specs.declared.stage.Stage.{Stage}
use Rattle.session_hall.specs.declared.stage.Stage.TheVariants.{Idle, Serving as Serves}
use Rattle.session_hall.specs.declared.stage.Stage.TheVariants.{InFlight, Applied, Out}

abbrev pub SeatOf : Type 0 → Type 0
SeatOf S = Seat (Held S) (HallRule S) (Content S)

-- a record while no operation is in flight, and while one is
abbrev pub waiting : ℕ → List Symbol → Serving
waiting t f = record { ticket = t; foresight = f; flight = None }

abbrev pub flying : ℕ → List Symbol → Op → Serving
flying t f op = record { ticket = t; foresight = f; flight = Some op }

-- what the ticket of a record may still call, and nothing where there is none
abbrev pub foresight_in : Option Serving → List Symbol
foresight_in None = []
foresight_in (Some s) = s.foresight

-- no turn is held, and nothing is in the hands
pub record HoldsNone {S : Type 0} (s : SeatOf S) (pairs : List (ℕ × Held S)) : Type 0 where
  pub free : (t : ℕ) → held s t ≡ None
  pub no_pairs : pairs ≡ []

-- the caller's record in the book of its note, and what it holds, by its stage
abbrev pub Stands : {S : Type 0} → Meaning → ℕ → Stage → List Symbol → Book → SeatOf S
    → List (ℕ × Held S) → Type 0
Stands m turns Idle f b s xs = (record_of b (caller s) ≡ None) × HoldsNone s xs
Stands m turns (Serves t) f b s xs = (record_of b (caller s) ≡ Some (waiting t f)) × HoldsNone s xs
Stands m turns (InFlight t op) f b s xs = (record_of b (caller s) ≡ Some (flying t f op))
    × HoldsNone s xs
Stands m turns (Applied t op v) f b s xs = (record_of b (caller s) ≡ Some (flying t f op))
    × WasDone m turns op v (held s) (in_hands content_of xs)
Stands m turns Out f b s xs = (record_of b (caller s) ≡ None) × (m.requests ≤ begun b.journal)
    × HoldsNone s xs

-- it serves no ticket
abbrev pub IsBetween : Stage → Type 0
IsBetween Idle = Unit {0}
IsBetween Out = Unit {0}
IsBetween _ = ⊥

-- it serves a ticket with no operation in flight
abbrev pub IsServing : Stage → Type 0
IsServing (Serves t) = Unit {0}
IsServing _ = ⊥

-- an operation is in flight, and not yet done on its shards
abbrev pub IsInFlight : Stage → Type 0
IsInFlight (InFlight t op) = Unit {0}
IsInFlight _ = ⊥

-- an operation was done on its shards, and isn't entered yet
abbrev pub IsApplied : Stage → Type 0
IsApplied (Applied t op v) = Unit {0}
IsApplied _ = ⊥

-- it serves a ticket with no operation in flight, and this is so of the ticket
abbrev pub OnServing : Stage → (ℕ → Type 0) → Type 0
OnServing (Serves t) P = P t
OnServing _ P = ⊥

-- its operation is in flight, and this is so of the ticket and the operation
abbrev pub OnFlight : Stage → (ℕ → Op → Type 0) → Type 0
OnFlight (InFlight t op) P = P t op
OnFlight _ P = ⊥
