-- Tickets that a program drives: what a desk holds, what each act leaves, and runs of acts.
use Rattle.std.specs.Prelude.{◌≡◌, ℕ, zero, suc, ◌<◌, ◌==◌, List, [], ◌∷◌, ◌++◌, Option, Some, None, cond}
use Rattle.session_values.specs.declared.op.Op.{Op}
use Rattle.session_values.specs.declared.value.Value.{Value}
use Rattle.session_values.specs.Dialogue.{Entry}
use Rattle.session_values.specs.Tables.{Tables, reply, step}
use Rattle.symbolic_ops.specs.declared.symbol.Symbol.{Symbol}
use Rattle.symbolic_ops.specs.Matching.{Covered, Matches}
use Rattle.symbolic_ops.specs.Commuting.{CommutesWithAll}
use Rattle.session_journal.specs.Journal.{DoneOperation}

-- the tables, the number of the next ticket, and of each open ticket what it may still call
pub record DeskState : Type 0 where
  pub tables : Tables
  pub next : ℕ
  pub at : ℕ → Option (List Symbol)

-- over these tables, before any ticket has begun
abbrev pub opened : Tables → DeskState
opened ts = record { tables = ts; next = 0; at = λ t. None }

-- what a program does: it begins a ticket, does an operation of one, which has this reply, narrows
-- one, or ends one
pub data Act : Type 0 where
  Begins : List Symbol → Act
  Calls : ℕ → Op → Value → Act
  Narrows : ℕ → List Symbol → Act
  Ends : ℕ → Act

-- the operation commutes with all that the open tickets below t have declared
abbrev pub IsFree : DeskState → ℕ → Op → Type 0
IsFree p t op = (u : ℕ) (g : List Symbol) → u < t → p.at u ≡ Some g → CommutesWithAll op g

module _ (p q : DeskState) where
  -- no table changes
  abbrev pub AreTablesStill : Type 0
  AreTablesStill = q.tables ≡ p.tables

  -- the next ticket begins, and declares this list
  pub record HasBegun (f : List Symbol) : Type 0 where
    pub tables_still : AreTablesStill
    pub next_more : q.next ≡ suc p.next
    pub at_is : (u : ℕ) → q.at u ≡ cond (u == p.next) (Some f) (p.at u)

  -- an open ticket's operation, which it has declared and which commutes with all that older open
  -- tickets have declared, is done on the tables
  pub record HasCalled (t : ℕ) (op : Op) (v : Value) : Type 0 where
    pub declared : List Symbol
    pub is : p.at t ≡ Some declared
    pub matches : Matches declared op
    pub free : IsFree p t op
    pub reply_is : v ≡ reply p.tables op
    pub tables_are : q.tables ≡ step p.tables op
    pub next_still : q.next ≡ p.next
    pub at_still : (u : ℕ) → q.at u ≡ p.at u

  -- an open ticket declares this list in place of its own, which covers it
  pub record HasNarrowed (t : ℕ) (g : List Symbol) : Type 0 where
    pub declared : List Symbol
    pub is : p.at t ≡ Some declared
    pub covered : Covered g declared
    pub tables_still : AreTablesStill
    pub next_still : q.next ≡ p.next
    pub at_is : (u : ℕ) → q.at u ≡ cond (u == t) (Some g) (p.at u)

  -- an open ticket ends
  pub record HasEnded (t : ℕ) : Type 0 where
    pub declared : List Symbol
    pub is : p.at t ≡ Some declared
    pub tables_still : AreTablesStill
    pub next_still : q.next ≡ p.next
    pub at_is : (u : ℕ) → q.at u ≡ cond (u == t) None (p.at u)

  -- the act is done
  abbrev pub Does : Act → Type 0
  Does (Begins f) = HasBegun f
  Does (Calls t op v) = HasCalled t op v
  Does (Narrows t g) = HasNarrowed t g
  Does (Ends t) = HasEnded t

-- acts, one after another
abbrev pub Run : DeskState → List Act → DeskState → Type 0
Run p [] q = q ≡ p
Run p (a ∷ acts) q = (mid : DeskState) × Does p mid a × Run mid acts q

-- the operations that were done, in order, each with its ticket and its reply
abbrev pub done_in : List Act → List DoneOperation
done_in [] = []
done_in (Begins f ∷ acts) = done_in acts
done_in (Calls t op v ∷ acts) = record { ticket = t; op = op; reply = v } ∷ done_in acts
done_in (Narrows t g ∷ acts) = done_in acts
done_in (Ends t ∷ acts) = done_in acts

-- the operations of one ticket, in order
abbrev pub calls_of : ℕ → List Entry → List Act
calls_of t [] = []
calls_of t (e ∷ es) = Calls t e.op e.reply ∷ calls_of t es

-- a ticket that begins with this list, does these operations and ends, and nobody else between
abbrev pub whole_ticket : ℕ → List Symbol → List Entry → List Act
whole_ticket t f es = Begins f ∷ calls_of t es ++ Ends t ∷ []

-- so many tickets that began and ended, and did nothing
abbrev pub idle_tickets : ℕ → List Act
idle_tickets zero = []
idle_tickets (suc n) = idle_tickets n ++ whole_ticket n [] []
