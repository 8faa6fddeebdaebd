-- What the fields of a plain desk keep.
use Rattle.std.specs.Prelude.{◌≡◌, ℕ, ◌≤◌, ◌<◌, List, Option, Some, None, true, false, length, map, slice_get, slice_range}
use Rattle.session_values.specs.Limits.{max_symbols}
use Rattle.session_values.specs.declared.op.Op.{Op}
use Rattle.session_values.specs.Dialogue.{Calls, Entry, Follows}
use Rattle.session_values.specs.Serial.{Session, serial, tables_before}
use Rattle.session_values.specs.Tables.{Tables, reply, step, kind_of}
use Rattle.symbolic_ops.specs.Matching.{Matches}
use Rattle.session_journal.specs.Desks.{DeskView, next_of}
use Rattle.session_journal.specs.Journal.{Replays}
use Rattle.session_journal.specs.Script.{Meaning, IsScript, session_of}
use Rattle.plain_desk.specs.declared.ended_ticket.EndedTicket.{EndedTicket}
use Rattle.plain_desk.specs.PlainDesks.{ended_count, tables_at}

-- the Reply of an ended ticket, and its entries among all, are those of the serial run
pub record IsSerial (s : Session) (all : List Entry) (t : ℕ) (e : EndedTicket) : Type 0 where
  pub order : e.from ≤ e.until
  pub within : e.until ≤ length all
  pub entries : slice_range all e.from e.until ≡ (serial s t).entries
  pub answer : (serial s t).answer ≡ Some e.reply

-- an operation that waits is the one that the ticket calls, and its reply that of the tables after
-- the entries
abbrev pub Waits : Meaning → DeskView → Option Entry → Type 0
Waits m d None = Unit {0}
Waits m d (Some e) = (next_of m d ≡ Calls e.op) × (reply (tables_at m d) e.op ≡ e.reply)

-- the tables after the operation that waits
abbrev pub after_waiting : Tables → Option Entry → Tables
after_waiting ts None = ts
after_waiting ts (Some e) = step ts e.op

-- a ticket is open: it has been served as in the serial run so far
pub record IsOpen (m : Meaning) (d : DeskView) (tables : Tables) : Type 0 where
  pub ticket : d.ticket < m.requests
  pub follows : Follows (m.next d.ticket) d.entries
  pub replays : Replays (tables_before (session_of m) d.ticket) d.entries
  pub waits : Waits m d d.waiting
  pub kept : tables ≡ after_waiting (tables_at m d) d.waiting

-- none is open: the tables are those of the serial run, and nothing may be called
pub record IsIdle (m : Meaning) (d : DeskView) (tables : Tables) : Type 0 where
  pub waiting : d.waiting ≡ None
  pub kept : tables ≡ tables_before (session_of m) (ended_count m d)
  pub stopped : (op : Op) → next_of m d ≡ Calls op → Matches d.present op → ⊥

-- an operation that waits has room for its entry
abbrev pub HasRoom : ℕ → ℕ → Option Entry → Type 0
HasRoom count room None = Unit {0}
HasRoom count room (Some e) = count < room

-- each ended ticket is as in the serial run, an open one so far too, and the tables are those after
-- them; there is room for any foresight, for all Replies, and for the entry of what waits
pub record Keeps (m : Meaning) (d : DeskView) (tables : Tables) (symbol_room : ℕ) (all : List Entry)
    (entry_room first : ℕ) (ended : List EndedTicket) (reply_room : ℕ) : Type 0 where
  pub script : IsScript m
  pub kinds : map kind_of tables ≡ m.shape
  pub count : length ended ≡ ended_count m d
  pub serial : (t : ℕ) (e : EndedTicket) → slice_get ended t ≡ Some e
      → IsSerial (session_of m) all t e
  pub is_open : d.ended ≡ false → IsOpen m d tables
  pub idle : d.ended ≡ true → IsIdle m d tables
  pub within : first ≤ length all
  pub room : HasRoom (length all) entry_room d.waiting
  pub symbols : max_symbols ≤ symbol_room
  pub replies : m.requests ≤ reply_room
