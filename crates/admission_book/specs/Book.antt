-- Books: what is kept beside a script, who delays an operation, and what the methods leave.
use Rattle.std.specs.Prelude.{◌≡◌, ℕ, ◌<◌, List, [], ◌∷◌, ◌++◌, Option, Some, None, cond, slice_index_or, slice_set, replicate}
use Rattle.std.specs.List.{AllByRecursion}
use Rattle.session_values.specs.declared.value.Value.{Value}
use Rattle.session_values.specs.declared.op.Op.{Op}
use Rattle.session_values.specs.declared.reply.Reply.{Reply}
use Rattle.symbolic_ops.specs.declared.symbol.Symbol.{Symbol}
use Rattle.symbolic_ops.specs.Matching.{Covered}
use Rattle.session_journal.specs.declared.event.Event.{Event}
use Rattle.session_journal.specs.declared.event.Event.TheVariants.{Begin, Done, Delay, End}
use Rattle.symbolic_ops.specs.Commuting.{CommutesWith, CommutesWithAll}
use Rattle.session_journal.specs.Journal.{done_operations, entries, begun, owner}
use Rattle.session_values.specs.Dialogue.{Calls, rest, replies}
use Rattle.session_journal.specs.Script.{IsForesight, Meaning}
use Rattle.session_journal.specs.EventsInTurn.{IsOpen, declared_after, now, is_delayed}

-- a caller's record while it serves a ticket
pub record Serving : Type 0 where
  pub ticket : ℕ
  pub foresight : List Symbol
  pub flight : Option Op

-- what a book holds beside its script: for each ticket the Reply that is kept, and for each caller
-- its record
pub record Book : Type 0 where
  pub journal : List Event
  pub kept : List (Option Reply)
  pub records : List (Option Serving)

-- the record of a caller
abbrev pub record_of : Book → ℕ → Option Serving
record_of b c = slice_index_or b.records c None

-- the Reply kept for a ticket
abbrev pub kept_for : Book → ℕ → Option Reply
kept_for b t = slice_index_or b.kept t None

-- what is true of each record that isn't empty
pub record Holds (m : Meaning) (b : Book) (c : ℕ) (s : Serving) : Type 0 where
  -- its ticket is open, and belongs to its caller
  pub is_open : IsOpen b.journal s.ticket
  pub owner : owner b.journal s.ticket ≡ Some c
  -- its foresight covers what the ticket may still do
  pub foresight : IsForesight (rest (m.next s.ticket) (replies (entries b.journal s.ticket)))
      s.foresight
  -- and what the ticket declared last, at its beginning or right after an operation, covers its
  -- foresight
  pub declared : Covered s.foresight (declared_after m s.ticket (entries b.journal s.ticket))
  -- its operation in flight is the one that the ticket calls
  pub flight : (op : Op) → s.flight ≡ Some op → now m b.journal s.ticket ≡ Calls op
  -- what younger tickets have done, or have in flight, commutes with all that it may still do
  pub done : AllByRecursion (λ d. s.ticket < d.ticket
      → CommutesWithAll d.op s.foresight) (done_operations b.journal)
  pub in_flight : (d : ℕ) (z : Serving) (op : Op) → record_of b d ≡ Some z → s.ticket < z.ticket
      → z.flight ≡ Some op → CommutesWithAll op s.foresight

-- ---- who delays an operation
-- no older open ticket has a symbol with which the operation doesn't commute
abbrev pub IsFree : Book → ℕ → Op → Type 0
IsFree b t op = (c : ℕ) (s : Serving) → record_of b c ≡ Some s → s.ticket < t
    → AllByRecursion (λ y. CommutesWith op y) s.foresight

-- y is the first symbol of the list with which the operation doesn't commute
pub record IsFirstAgainst (op : Op) (foresight : List Symbol) (y : Symbol) : Type 0 where
  pub front : List Symbol
  pub back : List Symbol
  pub is : foresight ≡ front ++ y ∷ back
  pub before : AllByRecursion (λ x. CommutesWith op x) front
  pub against : CommutesWith op y → ⊥

-- older is the least open ticket below t that has a symbol with which the operation doesn't
-- commute, and y is its first such symbol
pub record IsBlocker (b : Book) (t : ℕ) (op : Op) (older : ℕ) (y : Symbol) : Type 0 where
  pub caller : ℕ
  pub serving : Serving
  pub is : record_of b caller ≡ Some serving
  pub ticket : serving.ticket ≡ older
  pub is_older : older < t
  pub symbol : IsFirstAgainst op serving.foresight y
  pub least : IsFree b older op

-- ---- what the methods leave
abbrev pub with_record : Book → ℕ → Option Serving → Book
with_record b c x = record { journal = b.journal; kept = b.kept; records = slice_set b.records c x }

abbrev pub with_event : Book → Event → Book
with_event b e = record { journal = b.journal ++ e ∷ []; kept = b.kept; records = b.records }

-- after caller c begins the next ticket
abbrev pub after_begin : Book → ℕ → List Symbol → Book
after_begin b c f = with_record (with_event b (Begin (begun b.journal) c)) c
    (Some (record { ticket = begun b.journal; foresight = f; flight = None }))

-- after the ticket of caller c narrows
abbrev pub after_narrow : Book → ℕ → Serving → List Symbol → Book
after_narrow b c s f = with_record b c (Some (record {
  ticket = s.ticket;
  foresight = f;
  flight = s.flight;
}))

-- after an operation of caller c is admitted
abbrev pub after_admit : Book → ℕ → Serving → Op → Book
after_admit b c s op = with_record b c (Some (record {
  ticket = s.ticket;
  foresight = s.foresight;
  flight = Some op;
}))

-- after an operation is delayed: it is noted once
abbrev pub after_delay : Book → ℕ → Op → ℕ → Symbol → Book
after_delay b t op older y = cond (is_delayed b.journal t) b (with_event b (Delay t op older y))

-- after the operation in flight of caller c is done
abbrev pub after_done : Book → ℕ → Serving → Op → Value → List Symbol → Book
after_done b c s op r f = with_record (with_event b (Done s.ticket op r)) c
    (Some (record { ticket = s.ticket; foresight = f; flight = None }))

-- after the ticket of caller c ends
abbrev pub after_end : Book → ℕ → Serving → Reply → Book
after_end b c s r = record {
  journal = b.journal ++ End s.ticket r ∷ [];
  kept = slice_set b.kept s.ticket (Some r);
  records = slice_set b.records c None;
}

-- a book with these many callers and room for these many Replies, before any ticket is begun
abbrev pub opened : ℕ → ℕ → Book
opened requests callers = record {
  journal = [];
  kept = replicate requests None;
  records = replicate callers None;
}
