-- What has been done, replayed and regrouped by ticket.
use Rattle.std.specs.Prelude.{◌≡◌, ℕ, zero, suc, ◌<◌, ◌==◌, List, [], ◌∷◌, ◌++◌, cond, Option, Some, None}
use Rattle.std.specs.List.{AllByRecursion}
use Rattle.session_values.specs.declared.value.Value.{Value}
use Rattle.session_values.specs.declared.op.Op.{Op}
use Rattle.session_values.specs.declared.reply.Reply.{Reply}
use Rattle.session_values.specs.Commuting.{Commute}
use Rattle.session_values.specs.Dialogue.{Entry}
use Rattle.session_values.specs.Tables.{Tables, reply, step}
use Rattle.session_journal.specs.declared.event.Event.{Event}
use Rattle.session_journal.specs.declared.event.Event.TheVariants.{Begin, Done, Delay, End}

-- what contracts see of a journal: its events, and how many it has room for
pub record JournalView : Type 0 where
  pub events : List Event
  pub room : ℕ

-- an entry with the ticket that it is of
pub record DoneOperation : Type 0 where
  pub ticket : ℕ
  pub op : Op
  pub reply : Value

abbrev pub entry_of : DoneOperation → Entry
entry_of d = record { op = d.op; reply = d.reply }

-- the Done events of a journal, in order
abbrev pub done_operations : List Event → List DoneOperation
done_operations [] = []
done_operations (Done t op r ∷ J) = record { ticket = t; op = op; reply = r } ∷ done_operations J
done_operations (_ ∷ J) = done_operations J

-- those of one ticket, as entries
abbrev pub of_ticket : ℕ → List DoneOperation → List Entry
of_ticket t [] = []
of_ticket t (d ∷ ds) = cond (d.ticket == t) (entry_of d ∷ of_ticket t ds) (of_ticket t ds)

-- all, as entries
abbrev pub in_order : List DoneOperation → List Entry
in_order [] = []
in_order (d ∷ ds) = entry_of d ∷ in_order ds

-- those of ticket 0, then those of ticket 1, and so on below n
abbrev pub by_ticket : ℕ → List DoneOperation → List Entry
by_ticket zero ds = []
by_ticket (suc n) ds = by_ticket n ds ++ of_ticket n ds

-- the tables after the operations of a list, in order
abbrev pub run : Tables → List Entry → Tables
run ts [] = ts
run ts (e ∷ es) = run (step ts e.op) es

-- applying the operations of a list in order gives each its reply
abbrev pub Replays : Tables → List Entry → Type 0
Replays ts [] = Unit {0}
Replays ts (e ∷ es) = (reply ts e.op ≡ e.reply) × Replays (step ts e.op) es

-- of two done operations of which the younger ticket's stands first, the operations commute
abbrev pub InversionsCommute : List DoneOperation → Type 0
InversionsCommute [] = Unit {0}
InversionsCommute (d ∷ ds) = AllByRecursion (λ e. e.ticket < d.ticket → Commute d.op e.op) ds
    × InversionsCommute ds

-- each done operation is of a ticket below n
abbrev pub AreBelow : ℕ → List DoneOperation → Type 0
AreBelow n ds = AllByRecursion (λ d. d.ticket < n) ds

-- ---- of a journal
-- the entries of a ticket, in order
abbrev pub entries : List Event → ℕ → List Entry
entries J t = of_ticket t (done_operations J)

-- how many tickets are begun
abbrev pub begun : List Event → ℕ
begun [] = 0
begun (Begin t c ∷ J) = suc (begun J)
begun (_ ∷ J) = begun J

-- the first thing that a test finds
abbrev pub first : {X : Type 0} → (Event → Option X) → List Event → Option X
first f [] = None
first f (e ∷ J) = elim (f e) [ Some x ↦ Some x | None ↦ first f J ]

abbrev pub end_of : ℕ → Event → Option Reply
end_of t (End u r) = cond (u == t) (Some r) None
end_of t _ = None

abbrev pub caller_of : ℕ → Event → Option ℕ
caller_of t (Begin u c) = cond (u == t) (Some c) None
caller_of t _ = None

-- the Reply with which a ticket has ended
abbrev pub ended : List Event → ℕ → Option Reply
ended J t = first (end_of t) J

-- the caller that a ticket belongs to
abbrev pub owner : List Event → ℕ → Option ℕ
owner J t = first (caller_of t) J

-- the tables after the operations that were done, from the opening tables
abbrev pub after : Tables → List Event → Tables
after opening J = run opening (in_order (done_operations J))

-- the entries of ticket 0, then those of ticket 1, and so on through all begun tickets
abbrev pub regrouped : List Event → List Entry
regrouped J = by_ticket (begun J) (done_operations J)

-- the ticket of an event
abbrev pub ticket_of : Event → ℕ
ticket_of (Begin t c) = t
ticket_of (Done t op r) = t
ticket_of (Delay t op older y) = t
ticket_of (End t r) = t
