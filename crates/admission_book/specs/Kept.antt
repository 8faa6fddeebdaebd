-- What the fields of a book keep.
use Rattle.std.specs.Prelude.{◌≡◌, ℕ, ◌<◌, ◌≤◌, ◌+◌, ◌*◌, ◌⊎◌, List, Option, Some, None, length}
use Rattle.session_values.specs.declared.reply.Reply.{Reply}
use Rattle.session_journal.specs.declared.event.Event.{Event}
use Rattle.session_journal.specs.Journal.{JournalView, begun}
use Rattle.session_journal.specs.Script.{Meaning, IsScript, calls}
use Rattle.admission_book.specs.Book.{Book, Serving}
use Rattle.session_journal.specs.EventsInTurn.{is_delayed}
use Rattle.admission_book.specs.Foresights.{KeepsForesight}
use Rattle.admission_book.specs.declared.caller_record.CallerRecord.{CallerRecord}
use Rattle.admission_book.specs.CallerRecord.{serving_of, servings, record_at}

-- the book that the fields show
abbrev pub book_of : Meaning → List Event → List (Option Reply) → List CallerRecord → Book
book_of m J kept rs = record { journal = J; kept = kept; records = servings m rs }

-- a record's foresight is one that it can have, and it knows whether the last event of its ticket is
-- a Delay
pub record KeepsRecord (m : Meaning) (J : List Event) (r : CallerRecord) : Type 0 where
  pub foresight : KeepsForesight m r.foresight
  pub noted : (s : Serving) → serving_of m r ≡ Some s → r.delayed ≡ is_delayed J s.ticket

-- no record has an older ticket than this one
pub record AreFrom (oldest : ℕ) (rs : List CallerRecord) : Type 0 where
  pub each : (c u : ℕ) → (record_at rs c).ticket ≡ Some u → oldest ≤ u

-- the begun tickets are counted, none that is open is older than this one, and there is room for all
-- that the script can make of the book
pub record Keeps (m : Meaning) (count oldest : ℕ) (journal : JournalView)
    (kept : List (Option Reply)) (records : List CallerRecord) : Type 0 where
  pub script : IsScript m
  pub counted : count ≡ begun journal.events
  pub from : AreFrom oldest records
  pub is_begun : oldest ≤ count
  pub events : 2 * m.requests + 2 * calls m ≤ journal.room
  pub one_each : length kept ≡ m.requests
  pub each : (c : ℕ) → KeepsRecord m journal.events (record_at records c)

-- ---- parts of the calls
-- the record of some caller has the ticket
pub record IsServed (rs : List CallerRecord) (t : ℕ) : Type 0 where
  pub caller : ℕ
  pub ticket : (record_at rs caller).ticket ≡ Some t

-- there is a ticket, and it is at most this one
abbrev pub IsAtMost : Option ℕ → ℕ → Type 0
IsAtMost None u = ⊥
IsAtMost (Some t) u = t ≤ u

abbrev pub IfServed : List CallerRecord → Option ℕ → Type 0
IfServed rs None = Unit {0}
IfServed rs (Some t) = IsServed rs t

pub record IsLeastTicket (rs : List CallerRecord) (i : ℕ) (found : Option ℕ) : Type 0 where
  pub each : (c u : ℕ) → c < i → (record_at rs c).ticket ≡ Some u → IsAtMost found u
  pub at : IfServed rs found

-- the lesser of two tickets, where there are any
abbrev pub IsLesser : Option ℕ → Option ℕ → Option ℕ → Type 0
IsLesser a b r = ((r ≡ a) × ((u : ℕ) → b ≡ Some u → IsAtMost a u))
    ⊎ ((r ≡ b) × ((u : ℕ) → a ≡ Some u → IsAtMost b u))
