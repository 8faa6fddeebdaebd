-- A caller of a hall between two calls.
use Rattle.std.specs.Prelude.{◌≡◌, ℕ, ◌+◌, ◌*◌, ◌<◌, ◌≤◌, List, Option, Some, None, length}
use Rattle.session_values.specs.Limits.{max_shards}
use Rattle.session_values.specs.Dialogue.{Entry}
use Rattle.symbolic_ops.specs.declared.symbol.Symbol.{Symbol}
use Rattle.session_journal.specs.Foreknown.{Foreknown}
use Rattle.session_journal.specs.Journal.{Replays, begun, done_operations}
use Rattle.session_journal.specs.Journal.{entries, in_order, regrouped}
use Rattle.session_journal.specs.Script.{Meaning, IsScript}
use Rattle.admission_book.specs.Book.{Book, opened, record_of}
use Rattle.admission_book.specs.Lawful.{Lawful}
use Rattle.turn_board.specs.Boards.{note, caller, caller_count}
use Rattle.turn_board.specs.Hands.{Once}
use Rattle.turn_board.specs.Limits.{max_board_turns}
use Rattle.turn_board.specs.Passes.{IsSeated}
use Rattle.hall_rule.specs.Contents.{Content, Register, Shard, opening_tables}
use Rattle.hall_rule.specs.Shards.{content_of}
use Rattle.session_hall.specs.declared.caller.Caller.{Caller}
use Rattle.session_hall.specs.declared.hall.Hall.{Hall}
use Rattle.session_hall.specs.Names.{HallId, id_of, hall_name, script_of}
use Rattle.session_hall.specs.Stages.{Stands, foresight_in}

-- the book of a note
abbrev pub book_in : {S : Type 0} → Option (Content S) → Book
book_in (Some (Register s b)) = b
book_in (Some (Shard c room)) = opened 0 0
book_in None = opened 0 0

-- the book of the caller's note
abbrev pub book_of : {S : Type 0} → Caller S → Book
book_of c = book_in (note c.seat)

-- the entries of a ticket in the caller's note
abbrev pub entries_of : {S : Type 0} → Caller S → ℕ → List Entry
entries_of c t = entries (book_of c).journal t

-- what the caller's ticket may still call: the foresight of the caller's record in the book of its
-- note, and nothing while it serves no ticket
abbrev pub foresight_of : {S : Type 0} → Caller S → List Symbol
foresight_of c = foresight_in (record_of (book_of c) c.number)

-- what a note tells: its journal replays, and regrouped by ticket too, and of each begun ticket the
-- entries are the first of its serial ones, and the Reply is its serial one
pub record IsTold (m : Meaning) (b : Book) : Type 0 where
  pub replays : Replays (opening_tables m) (in_order (done_operations b.journal))
  pub regrouped : Replays (opening_tables m) (regrouped b.journal)
  pub foreknown : (t : ℕ) → t < begun b.journal → Foreknown m b.journal t

-- its seat is of the hall's board, its note is a lawful book of the hall's script, and it holds
-- what its stage says
pub record IsCallerIn {S : Type 0} (meaning : S → Meaning) (p : HallId) (script : S)
    (c : Caller S) : Type 0 where
  pub seat : IsSeated p.board c.seat.pass.token
  pub number_is : caller c.seat ≡ c.number
  pub caller_count_is : caller_count c.seat ≡ p.callers
  pub noted : note c.seat ≡ Some (Register script (book_of c))
  pub script_kept : IsScript (meaning script)
  pub lawful : Lawful (meaning script) (book_of c)
  pub told : IsTold (meaning script) (book_of c)
  pub tables_are : length (meaning script).shape ≡ p.tables
  pub some_shards : 0 < p.shards
  pub few_shards : p.shards ≤ max_shards
  pub turns_are : p.board.slots ≡ 1 + p.tables * p.shards
  pub few_turns : p.board.slots ≤ max_board_turns
  pub hands_room : max_board_turns ≤ c.hands.room
  pub once : Once content_of c.hands.pairs
  pub stands : Stands (meaning script) p.board.slots c.stage (foresight_of c) (book_of c) c.seat
      c.hands.pairs

-- a caller of the hall of this name, which serves this script
abbrev pub IsCallerAt : {S : Type 0} → (S → Meaning) → List ℕ → S → Caller S → Type 0
IsCallerAt meaning name script c = IsCallerIn meaning (id_of name) script c

-- a caller of this hall
abbrev pub IsCallerOf : {S : Type 0} → (S → Meaning) → Hall S → Caller S → Type 0
IsCallerOf meaning h c = IsCallerAt meaning (hall_name h) (script_of h) c

-- q is a caller of this hall with the number of p
abbrev pub StaysCaller : {S : Type 0} → (S → Meaning) → Hall S → Caller S → Caller S → Type 0
StaysCaller meaning h p q = IsCallerOf meaning h q × (q.number ≡ p.number)
