-- What a caller finds when it takes the book.
use Rattle.std.specs.Prelude.{◌≡◌, ◌≢◌, ℕ, suc, ◌+◌, ◌<◌}
use Rattle.std.specs.Prelude.{List, Option, Some, None, length, slice_get}
use Rattle.session_values.specs.Tables.{Container}
use Rattle.session_journal.specs.Script.{Meaning}
use Rattle.admission_book.specs.Book.{Book}
use Rattle.admission_book.specs.Lawful.{Lawful}
use Rattle.admission_book.specs.Methods.{BookView}
use Rattle.turn_board.specs.Boards.{Tells, held, note, caller, caller_count}
use Rattle.turn_board.specs.Boards.{given, lost, asks, givings, last_change}
use Rattle.hall_rule.specs.Contents.{Content, Register, Shard, IsSince, share}
use Rattle.hall_rule.specs.Tie.{Tied}
use Rattle.session_hall.specs.Callers.{book_in}
use Rattle.session_hall.specs.Stages.{SeatOf}

-- the book that a caller finds: it is lawful and has a record for each of so many callers; the
-- caller's own record is as in its note, and the journal is the note's, and then events of other
-- callers' tickets
pub record Finds (m : Meaning) (noted found : Book) (c callers : ℕ) : Type 0 where
  pub lawful : Lawful m found
  pub callers_are : length found.records ≡ callers
  pub near : c < callers
  pub since : IsSince noted found c

-- how many turns the seat's board has
abbrev pub turns_at : {S : Type 0} → SeatOf S → ℕ
turns_at s = s.pass.token.table_id.slots

-- the hall's rule held at the seat's last step: of the counted contents of all turns and the notes
-- of all callers, among which are the contents that the seat holds and its caller's note
abbrev pub IsTied : {S : Type 0} → Meaning → SeatOf S → Type 0
IsTied {S} m s = Tells (Tied (λ (script : S). m)) (turns_at s) s

-- the hall's rule held where the book was found by this seat's caller: of the counted contents of
-- all turns and the notes of all callers, among which are the book, the shards that the seat had,
-- and its caller's note
pub record IsTiedWith {S : Type 0} (m : Meaning) (p : SeatOf S) (found : Book) : Type 0 where
  pub script : S
  pub contents : List (Content S)
  pub notes : List (Content S)
  pub tied : Tied (λ (s : S). m) contents notes
  pub turns_are : length contents ≡ turns_at p
  pub callers_are : length notes ≡ caller_count p
  pub book : slice_get contents 0 ≡ Some (Register script found)
  pub shards : (j : ℕ) (x : Content S) → held p (suc j) ≡ Some x
      → slice_get contents (suc j) ≡ Some x
  pub noted : slice_get notes (caller p) ≡ note p

module _ {S : Type 0} (p q : SeatOf S) where
  -- the turn was found taken, and nothing else changed
  pub record FoundTaken (m : Meaning) (t : ℕ) : Type 0 where
    pub rule : IsTied m q
    pub rose : lost q t ≡ lost p t + 1
    pub others : (u : ℕ) → u ≢ t → lost q u ≡ lost p u
    pub held_still : (u : ℕ) → held q u ≡ held p u
    pub note_still : note q ≡ note p
    pub given_still : given q ≡ given p
    pub change_still : last_change q ≡ last_change p
    pub asks_more : asks q ≡ asks p + 1
    pub givings_still : givings q ≡ givings p
    pub several : caller_count p ≢ 1

  -- the book was taken, and each shard that is held is its part of the tables after the book's
  -- journal
  pub record HasBook (meaning : S → Meaning) (script : S) (turns : ℕ)
      (b : BookView S) : Type 0 where
    pub script_is : b.script ≡ script
    pub lawful : Lawful (meaning b.script) b.book
    pub finds : Finds (meaning script) (book_in (note p)) b.book (caller p) (caller_count p)
    pub here : held q 0 ≡ Some (Register script b.book)
    pub others : (u : ℕ) → u ≢ 0 → held q u ≡ held p u
    pub lost_still : (u : ℕ) → lost q u ≡ lost p u
    pub asks_more : asks q ≡ asks p + 1
    pub givings_still : givings q ≡ givings p
    pub shares : (j : ℕ) (x : Container) (room : ℕ) → held q (suc j) ≡ Some (Shard x room)
        → x ≡ share (meaning script) turns b.book.journal j
    pub rule : Tells (Tied (λ (s : S). meaning script)) turns q

  abbrev pub TookBook : (S → Meaning) → S → ℕ → Option (BookView S) → Type 0
  TookBook meaning script turns None = FoundTaken (meaning script) 0
  TookBook meaning script turns (Some b) = HasBook meaning script turns b
