-- When a book is lawful.
use Rattle.std.specs.Prelude.{◌≡◌, ℕ, [], Some, length}
use Rattle.session_values.specs.declared.reply.Reply.{Reply}
use Rattle.session_journal.specs.Journal.{done_operations, in_order, entries, ended, Replays, InversionsCommute}
use Rattle.session_values.specs.Dialogue.{Answers, Follows}
use Rattle.session_journal.specs.Script.{Meaning}
use Rattle.admission_book.specs.Book.{Serving, Book, record_of, kept_for, Holds}
use Rattle.session_journal.specs.EventsInTurn.{IsOpen, now, ComeInTurn}

-- a book that the methods of a book can lead to
pub record Lawful (m : Meaning) (b : Book) : Type 0 where
  -- the journal replays
  pub replays : Replays (m.opening) (in_order (done_operations b.journal))
  -- each ticket's entries are what it calls, and its Reply, which is kept, what it answers
  pub follows : (t : ℕ) → Follows (m.next t) (entries b.journal t)
  pub answered : (t : ℕ) (r : Reply) → ended b.journal t ≡ Some r → now m b.journal t ≡ Answers r
  pub kept : (t : ℕ) → kept_for b t ≡ ended b.journal t
  -- of two done operations of which the younger ticket's stands first, the operations commute
  pub inversions : InversionsCommute (done_operations b.journal)
  -- each record that isn't empty holds an open ticket, and each open ticket has one
  pub records : (c : ℕ) (s : Serving) → record_of b c ≡ Some s → Holds m b c s
  pub placed : (t : ℕ) → IsOpen b.journal t → (c : ℕ) × (s : Serving) × (record_of b c ≡ Some s)
      × (s.ticket ≡ t)
  -- events come in turn
  pub turns : ComeInTurn m (length b.records) [] b.journal
