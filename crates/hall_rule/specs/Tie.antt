-- The rule of a hall, and what a giving back of the book may change.
use Rattle.std.specs.Prelude.{◌≡◌, ◌≢◌, ℕ, suc, List, ◌++◌, Option, Some, None, length, slice_get}
use Rattle.std.specs.List.{AllByRecursion}
use Rattle.session_values.specs.Tables.{Container}
use Rattle.session_journal.specs.declared.event.Event.{Event}
use Rattle.session_journal.specs.Journal.{owner, ticket_of}
use Rattle.session_journal.specs.Script.{Meaning}
use Rattle.admission_book.specs.Book.{Book, record_of}
use Rattle.admission_book.specs.Lawful.{Lawful}
use Rattle.hall_rule.specs.Contents.{Content, Register, Shard, IsShard, IsNote, share}

-- the rule, over the counted contents of all turns and the notes of all callers: the book is lawful
-- and has a record for each caller, every shard is its part of the tables after the book's journal
-- with room for all that may come, and each caller's note is the book as it was, but for what other
-- callers did since
pub record Tied {S : Type 0} (meaning : S → Meaning)
    (contents notes : List (Content S)) : Type 0 where
  pub script : S
  pub book : Book
  pub register : slice_get contents 0 ≡ Some (Register script book)
  pub lawful : Lawful (meaning script) book
  pub callers : length book.records ≡ length notes
  pub shards : (j : ℕ) (x : Content S) → slice_get contents (suc j) ≡ Some x
      → IsShard (meaning script) (length contents) book.journal j x
  pub noted : (c : ℕ) (x : Content S) → slice_get notes c ≡ Some x → IsNote script book c x

-- what one giving back of the book by a caller may change, of the contents of the turns that it
-- holds: the book stays lawful, other callers' records stay, and the journal grows by events of the
-- caller's tickets; each shard that is held is its part of the tables after the new journal, and
-- the parts of all other shards stay
pub record Moves {S : Type 0} (meaning : S → Meaning) (turns caller : ℕ)
    (old new : ℕ → Option (Content S)) : Type 0 where
  pub script : S
  pub before : Book
  pub now : Book
  pub was : old 0 ≡ Some (Register script before)
  pub is : new 0 ≡ Some (Register script now)
  pub lawful : Lawful (meaning script) now
  pub callers : length now.records ≡ length before.records
  pub others : (d : ℕ) → d ≢ caller → record_of now d ≡ record_of before d
  pub more : List Event
  pub grows : before.journal ++ more ≡ now.journal
  pub own : AllByRecursion (λ e. owner now.journal (ticket_of e) ≡ Some caller) more
  pub held : (j : ℕ) (x : Content S) → new (suc j) ≡ Some x
      → (y : Container) × (room : ℕ) × (old (suc j) ≡ Some (Shard y room))
      × (x ≡ Shard (share (meaning script) turns now.journal j) room)
  pub free : (j : ℕ) → new (suc j) ≡ None → share (meaning script) turns before.journal j ≡ share
      (meaning script) turns now.journal j
