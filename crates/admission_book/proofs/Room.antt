-- How many events the journal of a lawful book has at most.
use Rattle.std.proofs.Common.{◌≡◌, ℕ, ◌+◌, ◌*◌, ◌≤◌, length}
use Rattle.session_journal.specs.Script.{Meaning, IsScript, calls}
use Rattle.session_journal.proofs.EventCounts.{counted, few_begun, few_counted}
use Rattle.admission_book.specs.Book.{Book}
use Rattle.admission_book.specs.Lawful.{Lawful}

-- so a lawful book has no more
pub few_events : (m : Meaning) (b : Book) → IsScript m → Lawful m b → length b.journal ≤ 2 * m.requests + 2 * calls m
few_events m b S L =
    few_counted m b.journal S (λ t. counted m (length b.records) t b.journal L.turns) (λ t. L.follows t) (few_begun m (length b.records) b.journal L.turns)
