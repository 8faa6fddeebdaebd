-- A hall as it is opened and as it is closed.
use Rattle.std.specs.Prelude.{◌≡◌, ℕ, ◌+◌, ◌*◌, ◌<◌, ◌≤◌, ◌/◌, ◌%◌}
use Rattle.std.specs.Prelude.{List, Some, length, map, slice_get}
use Rattle.session_values.specs.declared.reply.Reply.{Reply}
use Rattle.session_values.specs.Serial.{serial_replies, tables_before}
use Rattle.session_values.specs.Tables.{table}
use Rattle.session_journal.specs.declared.event.Event.{Event}
use Rattle.session_journal.specs.Journal.{begun, ended}
use Rattle.session_journal.specs.Script.{Meaning, IsScript, session_of}
use Rattle.shard_tables.specs.Parts.{part}
use Rattle.admission_book.specs.Book.{Book, opened}
use Rattle.admission_book.specs.Lawful.{Lawful}
use Rattle.admission_book.specs.Methods.{Grows}
use Rattle.turn_board.specs.Boards.{asks, given, givings, lost}
use Rattle.turn_board.specs.Limits.{max_board_turns}
use Rattle.hall_rule.specs.declared.held.Held.{Held}
use Rattle.hall_rule.specs.declared.held.Held.TheVariants.{Register, Table}
use Rattle.shard_tables.specs.declared.part.Part.{Part}
use Rattle.hall_rule.specs.Contents.{tables_after}
use Rattle.hall_rule.specs.Halls.{AllEnded}
use Rattle.shard_tables.specs.Either.{shard_view}
use Rattle.hall_rule.specs.Shards.{content_of}
use Rattle.session_hall.specs.declared.caller.Caller.{Caller}
use Rattle.session_hall.specs.declared.hall.Hall.{Hall}
use Rattle.session_hall.specs.declared.stage.Stage.TheVariants.{Idle, Out}
use Rattle.session_hall.specs.Callers.{IsCallerOf, IsTold, book_of}
use Rattle.session_hall.specs.Names.{script_of}
use Rattle.session_hall.specs.Stages.{SeatOf}

-- a seat that has asked for nothing yet, lost nothing, and given nothing back
pub record IsUnused {S : Type 0} (s : SeatOf S) : Type 0 where
  pub unasked : asks s ≡ 0
  pub unlost : (u : ℕ) → lost s u ≡ 0
  pub ungiving : givings s ≡ 0
  pub ungiven : given s ≡ 0

-- the caller of this number, which serves no ticket yet: its note is the opened book, whose journal
-- is empty, and its seat was never used
pub record Opens {S : Type 0} (meaning : S → Meaning) (h : Hall S) (i : ℕ)
    (c : Caller S) : Type 0 where
  pub caller : IsCallerOf meaning h c
  pub number_is : c.number ≡ i
  pub idle : c.stage ≡ Idle
  pub book_is : book_of c ≡ opened (meaning (script_of h)).requests h.sizes.callers
  pub unused : IsUnused c.seat

-- the caller of this number, which is out
pub record Leaves {S : Type 0} (meaning : S → Meaning) (h : Hall S) (i : ℕ)
    (c : Caller S) : Type 0 where
  pub caller : IsCallerOf meaning h c
  pub number_is : c.number ≡ i
  pub out : c.stage ≡ Out

-- what contracts see of a closed hall: its journal, the replies by ticket, the shards by turn, how
-- many each table has, and how many callers served
pub record ClosedView : Type 0 where
  pub journal : List Event
  pub replies : List Reply
  pub parts : List Part
  pub shards : ℕ
  pub callers : ℕ

-- of a script: the journal is that of a lawful book with a record for each caller, in which all
-- tickets have ended; the replies are those of serving the tickets one at a time, and the shards,
-- of which each table has some, are the parts of the tables after that
pub record IsDone (m : Meaning) (d : ClosedView) : Type 0 where
  pub script_kept : IsScript m
  pub book : Book
  pub journal_is : d.journal ≡ book.journal
  pub callers_are : length book.records ≡ d.callers
  pub lawful : Lawful m book
  pub told : IsTold m book
  pub all_begun : begun d.journal ≡ m.requests
  pub all_ended : (t : ℕ) → t < m.requests → (r : Reply) × (ended d.journal t ≡ Some r)
  pub replies : d.replies ≡ serial_replies (session_of m) m.requests
  pub tables : tables_after m d.journal ≡ tables_before (session_of m) m.requests
  pub some_shards : 0 < d.shards
  pub parts_are : length d.parts ≡ length m.shape * d.shards
  pub parts : (j : ℕ) (x : Part) → slice_get d.parts j ≡ Some x
      → (shard_view x).container ≡ part d.shards (j % d.shards)
      (table (tables_before (session_of m) m.requests) (j / d.shards))

-- the journal is that of the book in some caller's note, and the journal of each caller's note is a
-- front of it
pub record IsNotedBy {S : Type 0} (callers : List (Caller S)) (J : List Event) : Type 0 where
  pub whole : (i : ℕ) × (c : Caller S) × (slice_get callers i ≡ Some c) × ((book_of c).journal ≡ J)
  pub fronts : (i : ℕ) (c : Caller S) → slice_get callers i ≡ Some c → Grows (book_of c).journal J

-- what every closed hall holds
abbrev pub IsClosed : ClosedView → Type 0
IsClosed d = (m : Meaning) × IsDone m d

-- the value of a turn is a shard
abbrev pub IsTable : {S : Type 0} → Held S → Type 0
IsTable (Table p) = Unit {0}
IsTable (Register b) = ⊥

-- the values of a hall's turns when all these callers are out
pub record HasLeft {S : Type 0} (meaning : S → Meaning) (h : Hall S) (served : List (Caller S))
    (values : List (Held S)) : Type 0 where
  pub script_kept : IsScript (meaning (script_of h))
  pub some_shards : 0 < h.sizes.shards
  pub long : length values ≡ 1 + length (meaning (script_of h)).shape * h.sizes.shards
  pub few : length values ≤ max_board_turns
  pub ended : AllEnded (meaning (script_of h)) (script_of h) (map content_of values) (length values)
  pub callers : length ended.book.records ≡ h.sizes.callers
  pub noted : IsNotedBy served ended.book.journal
