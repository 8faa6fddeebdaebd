-- The contents of a hall as it is opened and as it is closed.
use Rattle.std.specs.Prelude.{◌≡◌, ℕ, suc, ◌<◌, ◌≤◌, ◌/◌, ◌%◌, List, [], Some, None, slice_get}
use Rattle.session_values.specs.declared.reply.Reply.{Reply}
use Rattle.session_values.specs.Serial.{tables_before}
use Rattle.session_values.specs.Tables.{table}
use Rattle.session_journal.specs.Journal.{begun, ended}
use Rattle.session_journal.specs.Script.{Meaning, session_of}
use Rattle.shard_tables.specs.Parts.{part}
use Rattle.admission_book.specs.Book.{Book, opened, record_of}
use Rattle.admission_book.specs.Lawful.{Lawful}
use Rattle.hall_rule.specs.Contents.{Content, Register, Shard, shards_in, share, needed}

-- ---- opening
-- the book with which a hall is opened
abbrev pub first_content : {S : Type 0} → (S → Meaning) → S → ℕ → Content S
first_content meaning script callers = Register script (opened (meaning script).requests callers)

-- the shard of turn j + 1 before any ticket is begun, with the room that its table needs
pub record IsFresh {S : Type 0} (m : Meaning) (turns j : ℕ) (x : Content S) : Type 0 where
  pub room : ℕ
  pub is : x ≡ Shard (share m turns [] j) room
  pub enough : needed m turns j ≤ room

-- ---- closing
-- the note of a caller that is out: it serves no ticket, and all tickets are begun
pub record IsOut {S : Type 0} (m : Meaning) (script : S) (c : ℕ) (x : Content S) : Type 0 where
  pub book : Book
  pub is : x ≡ Register script book
  pub no_ticket : record_of book c ≡ None
  pub all : m.requests ≤ begun book.journal

-- all tickets have ended, and the shards are the parts of the tables after serving them one at a
-- time
pub record AllEnded {S : Type 0} (m : Meaning) (script : S) (contents : List (Content S))
    (turns : ℕ) : Type 0 where
  pub book : Book
  pub register : slice_get contents 0 ≡ Some (Register script book)
  pub lawful : Lawful m book
  pub all_begun : begun book.journal ≡ m.requests
  pub all_ended : (t : ℕ) → t < m.requests → (r : Reply) × (ended book.journal t ≡ Some r)
  pub parts : (j : ℕ) (x : Content S) → slice_get contents (suc j) ≡ Some x
      → (room : ℕ)
      × (x ≡ Shard (part (shards_in m turns) (j % shards_in m turns)
      (table (tables_before (session_of m) m.requests) (j / shards_in m turns))) room)
