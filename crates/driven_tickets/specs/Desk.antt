-- What every desk keeps, and what its calls leave.
use Rattle.std.specs.Prelude.{◌≡◌, ℕ, ◌<◌, ◌-◌, ◌^◌, List, [], ◌∷◌, ◌++◌, Option, Some, None, Result, Ok, Err, Bool, map, true, false}
use Rattle.session_values.specs.Kinds.{is_adding}
use Rattle.session_values.specs.declared.op.Op.{Op}
use Rattle.session_values.specs.Tables.{Fits, Tables, kind_of}
use Rattle.symbolic_ops.specs.declared.symbol.Symbol.{Symbol}
use Rattle.symbolic_ops.specs.Matching.{Covered, Matches}
use Rattle.symbolic_ops.specs.Commuting.{CommutesWithAll}
use Rattle.driven_tickets.specs.declared.answers.BeginError.{BeginError}
use Rattle.driven_tickets.specs.declared.answers.BeginError.TheVariants as unbegun
use Rattle.driven_tickets.specs.declared.answers.Called.{Called}
use Rattle.driven_tickets.specs.declared.answers.Called.TheVariants as called
use Rattle.driven_tickets.specs.declared.answers.NarrowError.{NarrowError}
use Rattle.driven_tickets.specs.declared.answers.NarrowError.TheVariants as wide
use Rattle.driven_tickets.specs.declared.answers.NoTicket.{NoTicket}
use Rattle.driven_tickets.specs.declared.open_ticket.OpenTicket.{OpenTicket}
use Rattle.driven_tickets.specs.Acts.{Act, Begins, Calls, DeskState, Does, Ends, IsFree, Narrows, Run, opened}
use Rattle.driven_tickets.specs.Tickets.{AreAscending, declared_in}

-- what contracts see of a desk: the tables that it was opened over and those that it has now, the
-- number of the next ticket, the open tickets, and what was done, which no code reads
pub record DeskView : Type 0 where
  pub opening : Tables
  pub tables : Tables
  pub next : ℕ
  pub tickets : List OpenTicket
  pub acts : List Act

-- what contracts see of open tickets without their tables: the number of the next ticket, those that
-- are open, and what was done, which no code reads
pub record TicketsView : Type 0 where
  pub next : ℕ
  pub tickets : List OpenTicket
  pub acts : List Act

-- the desk that open tickets make over tables, which opened so
abbrev pub desk_over : Tables → Tables → TicketsView → DeskView
desk_over opening tables k = record {
  opening = opening;
  tables = tables;
  next = k.next;
  tickets = k.tickets;
  acts = k.acts;
}

-- its state
abbrev pub state_of : DeskView → DeskState
state_of d = record { tables = d.tables; next = d.next; at = declared_in d.tickets }

-- what every desk keeps: its open tickets ascend below the next one, and what was done leads from
-- the tables that it was opened over to what it holds
pub record IsDesk (d : DeskView) : Type 0 where
  pub ascending : AreAscending 0 d.tickets d.next
  pub run : Run (opened d.opening) d.acts (state_of d)

-- the act was done, and nothing else
pub record HasActed (d e : DeskView) (act : Act) : Type 0 where
  pub does : Does (state_of d) (state_of e) act
  pub acts : e.acts ≡ d.acts ++ act ∷ []
  pub opening : e.opening ≡ d.opening

-- ---- what a call finds
-- what a ticket has declared, or None where it isn't open
abbrev pub declared : DeskView → ℕ → Option (List Symbol)
declared d t = declared_in d.tickets t

-- an operation of the desk's tables
abbrev pub FitsDesk : DeskView → Op → Type 0
FitsDesk d op = Fits (map kind_of d.tables) op

-- the ticket is open
pub record IsOpen (d : DeskView) (t : ℕ) : Type 0 where
  pub list : List Symbol
  pub is : declared d t ≡ Some list

-- the ticket is open and has declared the operation
pub record IsDeclared (d : DeskView) (t : ℕ) (op : Op) : Type 0 where
  pub list : List Symbol
  pub is : declared d t ≡ Some list
  pub matches : Matches list op

-- the ticket is open and hasn't declared the operation
pub record IsUndeclared (d : DeskView) (t : ℕ) (op : Op) : Type 0 where
  pub list : List Symbol
  pub is : declared d t ≡ Some list
  pub missing : Matches list op → ⊥

-- the ticket is open, and what it has declared doesn't cover the list
pub record IsUncovered (d : DeskView) (t : ℕ) (g : List Symbol) : Type 0 where
  pub list : List Symbol
  pub is : declared d t ≡ Some list
  pub uncovered : Covered g list → ⊥

-- u is the least open ticket below t that has declared something with which the operation doesn't
-- commute
pub record IsDelayedBy (d : DeskView) (t : ℕ) (op : Op) (u : ℕ) : Type 0 where
  pub below : u < t
  pub list : List Symbol
  pub is : declared d u ≡ Some list
  pub against : CommutesWithAll op list → ⊥
  pub least : IsFree (state_of d) u op

-- the last number of 64 bits, which no ticket has
abbrev pub last_number : ℕ
last_number = 2 ^ 64 - 1

-- ---- what the calls answer and leave: the answers exclude one another, except that memory may be
-- wanting where else the call would have done its act
-- the next ticket begins; or nothing happens, since the numbers are used up, or there is no memory
abbrev pub BegunAs : DeskView → DeskView → List Symbol → Result ℕ BeginError → Type 0
BegunAs d e f (Ok t) = (t ≡ d.next) × (t < last_number) × HasActed d e (Begins f)
BegunAs d e f (Err unbegun.NoNumber) = (e ≡ d) × (d.next ≡ last_number)
BegunAs d e f (Err unbegun.NoMemory) = (e ≡ d) × (d.next < last_number)

-- the operation is done; or nothing happens, since an older ticket is in the way, the ticket hasn't
-- declared it, it is none of those that fit, the ticket isn't open, or there is no memory for an
-- operation that may add a key
abbrev pub CalledBy : (Op → Type 0) → DeskView → DeskView → ℕ → Op → Called → Type 0
CalledBy Fit d e t op (called.Done v) = Fit op × HasActed d e (Calls t op v)
CalledBy Fit d e t op (called.Delayed u) = (e ≡ d) × Fit op × IsDeclared d t op
    × IsDelayedBy d t op u
CalledBy Fit d e t op called.Undeclared = (e ≡ d) × Fit op × IsUndeclared d t op
CalledBy Fit d e t op called.Misfit = (e ≡ d) × (Fit op → ⊥) × IsOpen d t
CalledBy Fit d e t op called.NoTicket = (e ≡ d) × (declared d t ≡ None)
CalledBy Fit d e t op called.NoMemory = (e ≡ d) × Fit op × IsDeclared d t op
    × IsFree (state_of d) t op × (is_adding op.kind ≡ true)

-- the same, where those operations fit that are the tables' own
abbrev pub CalledAs : DeskView → DeskView → ℕ → Op → Called → Type 0
CalledAs d e t op answer = CalledBy (FitsDesk d) d e t op answer

-- why an operation isn't done, where it is known whether it fits; None, where nothing is against it
abbrev pub CheckedAs : DeskView → ℕ → Bool → Op → Option Called → Type 0
CheckedAs d t fits op None = (fits ≡ true) × IsDeclared d t op × IsFree (state_of d) t op
CheckedAs d t fits op (Some (called.Done v)) = ⊥
CheckedAs d t fits op (Some (called.Delayed u)) = (fits ≡ true) × IsDeclared d t op
    × IsDelayedBy d t op u
CheckedAs d t fits op (Some called.Undeclared) = (fits ≡ true) × IsUndeclared d t op
CheckedAs d t fits op (Some called.Misfit) = (fits ≡ false) × IsOpen d t
CheckedAs d t fits op (Some called.NoTicket) = declared d t ≡ None
CheckedAs d t fits op (Some called.NoMemory) = ⊥

-- the ticket is narrowed; or nothing happens, since what it had declared doesn't cover the list, or
-- it isn't open
abbrev pub NarrowedAs : DeskView → DeskView → ℕ → List Symbol → Result (Unit {0}) NarrowError
    → Type 0
NarrowedAs d e t g (Ok done) = HasActed d e (Narrows t g)
NarrowedAs d e t g (Err wide.Undeclared) = (e ≡ d) × IsUncovered d t g
NarrowedAs d e t g (Err wide.NoTicket) = (e ≡ d) × (declared d t ≡ None)

-- the ticket ends; or nothing happens, since it isn't open
abbrev pub EndedAs : DeskView → DeskView → ℕ → Result (Unit {0}) NoTicket → Type 0
EndedAs d e t (Ok done) = HasActed d e (Ends t)
EndedAs d e t (Err why) = (e ≡ d) × (declared d t ≡ None)
