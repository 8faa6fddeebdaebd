-- What the rule says of the counted contents, in a reader's words.
use Rattle.std.specs.Prelude.{◌≡◌, ℕ, suc, ◌<◌, ◌/◌, ◌%◌, List, Some, length, slice_get}
use Rattle.session_values.specs.Tables.{Tables, table}
use Rattle.session_journal.specs.Foreknown.{Foreknown}
use Rattle.session_journal.specs.Journal.{Replays, begun, regrouped, run}
use Rattle.session_journal.specs.Script.{Meaning}
use Rattle.shard_tables.specs.Parts.{part}
use Rattle.admission_book.specs.Book.{Book}
use Rattle.admission_book.specs.Methods.{Grows}
use Rattle.hall_rule.specs.Contents.{Content, Register, Shard, opening_tables, shards_in, tables_after}

-- the tables that the finished operations of a book give, ticket after ticket
abbrev pub regrouped_tables : Meaning → Book → Tables
regrouped_tables m book = run (opening_tables m) (regrouped book.journal)

-- The counted book's finished operations, regrouped by ticket, replay from the opening tables with
-- the same replies, and give the tables that they gave in the order in which they were done. Each
-- shard is its part of these tables. Of each begun ticket they are the first ones that it has when
-- the tickets are served one at a time, and the Reply of one that has ended is the one that it has
-- then. The journal of each caller's note is a front of the book's, and that of some caller's note
-- is the whole: nothing that a caller knows of is ever undone.
pub record ReplaysByTicket {S : Type 0} (m : Meaning) (script : S) (contents notes : List (Content S))
    (book : Book) : Type 0 where
  pub replays : Replays (opening_tables m) (regrouped book.journal)
  pub tables : regrouped_tables m book ≡ tables_after m book.journal
  pub shards : (j : ℕ) (x : Content S) → slice_get contents (suc j) ≡ Some x → (room : ℕ)
      × (x ≡ Shard (part (shards_in m (length contents)) (j % shards_in m (length contents))
      (table (regrouped_tables m book) (j / shards_in m (length contents)))) room)
  pub foreknown : (t : ℕ) → t < begun book.journal → Foreknown m book.journal t
  pub fronts : (c : ℕ) (x : Content S) → slice_get notes c ≡ Some x
      → (noted : Book) × (x ≡ Register script noted) × Grows noted.journal book.journal
  pub whole : 0 < length notes → (c : ℕ) × (noted : Book)
      × (slice_get notes c ≡ Some (Register script noted)) × (noted.journal ≡ book.journal)
