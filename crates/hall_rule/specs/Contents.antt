-- What counts of the values behind a hall's turns, and what each shard holds after a journal.
use Rattle.std.specs.Prelude.{◌≡◌, ◌≢◌, ℕ, ◌+◌, ◌-◌, ◌/◌, ◌%◌, ◌≤◌, List, [], ◌++◌, Some, length}
use Rattle.std.specs.List.{AllByRecursion}
use Rattle.session_values.specs.Tables.{Container, Tables, size_of, table}
use Rattle.session_journal.specs.declared.event.Event.{Event}
use Rattle.session_journal.specs.Journal.{after, owner, ticket_of}
use Rattle.session_journal.specs.Script.{Meaning, room}
use Rattle.shard_tables.specs.Parts.{part}
use Rattle.admission_book.specs.Book.{Book, record_of}

-- of turn 0 the book with its script, of every other turn what a shard holds and for how many keys
-- it has room
pub data Content (S : Type 0) : Type 0 where
  Register : S → Book → Content S
  Shard : Container → ℕ → Content S

-- how many shards each table has, of the numbers of turns and of tables
abbrev pub shards_of : ℕ → ℕ → ℕ
shards_of turns tables = (turns - 1) / tables

-- how many shards each table of a script has behind so many turns
abbrev pub shards_in : Meaning → ℕ → ℕ
shards_in m turns = shards_of turns (length m.shape)

-- the tables before any ticket is begun
abbrev pub opening_tables : Meaning → Tables
opening_tables m = m.opening

-- the tables after the operations that were done
abbrev pub tables_after : Meaning → List Event → Tables
tables_after m J = after m.opening J

-- what the shard behind turn j + 1 holds after the journal: its part of its table
abbrev pub share : Meaning → ℕ → List Event → ℕ → Container
share m turns J j = part (shards_in m turns) (j % shards_in m turns)
    (table (tables_after m J) (j / shards_in m turns))

-- for how many keys the shard behind turn j + 1 needs room: those that it opens with, and those
-- that the script may add to its table
abbrev pub needed : Meaning → ℕ → ℕ → ℕ
needed m turns j = size_of (share m turns [] j) + room m (j / shards_in m turns)

-- the content of turn j + 1 after the journal
pub record IsShard {S : Type 0} (m : Meaning) (turns : ℕ) (J : List Event) (j : ℕ)
    (x : Content S) : Type 0 where
  pub container : Container
  pub room : ℕ
  pub is : x ≡ Shard container room
  pub share_is : container ≡ share m turns J j
  pub enough : needed m turns j ≤ room

-- the event is of a ticket of another caller
abbrev pub IsOfOther : List Event → ℕ → Event → Type 0
IsOfOther J c e = (d : ℕ) × (owner J (ticket_of e) ≡ Some d) × (d ≢ c)

-- the book since a caller gave it back: the caller's record is as it was, and the events since then
-- are of tickets of other callers
pub record IsSince (noted book : Book) (c : ℕ) : Type 0 where
  pub own : record_of noted c ≡ record_of book c
  pub since : List Event
  pub grows : noted.journal ++ since ≡ book.journal
  pub of_others : AllByRecursion (λ e. IsOfOther book.journal c e) since

-- a caller's note: the book with its script, as that caller last gave it back
pub record IsNote {S : Type 0} (script : S) (book : Book) (c : ℕ) (x : Content S) : Type 0 where
  pub noted : Book
  pub is : x ≡ Register script noted
  pub since : IsSince noted book c
