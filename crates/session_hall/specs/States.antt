-- What is so of a hall in each state of its table, so also between any two atomic steps.
use Rattle.std.specs.Prelude.{◌≡◌, List, Option, Some, length, slice_get}
use mathlib.Core.Option.{some}
use mathlib.Core.Option as maybe
use lib.ListN.{get_elem?}
use Rattle.session_values.specs.declared.op.Op.{Op}
use Rattle.session_values.specs.declared.value.Value.{Value}
use Rattle.session_values.specs.Tables.{reply}
use Rattle.session_journal.specs.Script.{Meaning, IsScript}
use Rattle.admission_book.specs.Book.{Book}
use Rattle.admission_book.specs.Lawful.{Lawful}
use Rattle.turn_board.specs.States.{BoardState}
use Rattle.turn_board.specs.Tied as board
use Rattle.hall_rule.specs.declared.held.Held.{Held}
use Rattle.hall_rule.specs.Contents.{Content, Register, tables_after}
use Rattle.hall_rule.specs.Counted.{ReplaysByTicket}
use Rattle.hall_rule.specs.Shards.{content_of}
use Rattle.session_hall.specs.declared.caller.Caller.{Caller}
use Rattle.session_hall.specs.declared.hall.Hall.{Hall}
use Rattle.session_hall.specs.Names.{script_of}

-- the words and the slots of a hall's table, and what its seats know
abbrev pub HallState : Type 0 → Type 0
HallState S = BoardState (Held S) (Content S)

-- A state of the table behind the hall's board: it has as many slots as the table, the table's rule
-- holds, with the counted contents and the rule over them that are given, for the number of callers
-- that the table was made for; and the caller's seat is in it with what it knows. The table's own
-- steps keep it so.
pub record IsStateOf {S : Type 0} (content : Held S → Content S)
    (holds : List (Content S) → List (Content S) → Type 0) (h : Hall S) (c : Caller S)
    (s : HallState S) : Type 0 where
  pub slots : length s.homes ≡ h.board.words.table.shared.table_id.slots
  pub rule : board.Tied content holds h.board.words.table.shared.key.caller_count s
  pub seat : get_elem? s.views c.seat.pass.token.id ≡ some c.seat.pass.token.me.0

-- The book stands in the slot of turn 0 with the hall's own script, and it is lawful. Its finished
-- operations, regrouped by ticket, replay from the opening tables with the same replies, and what
-- else is known of the counted contents of all turns and the notes of all callers.
pub record IsInSlot {S : Type 0} (meaning : S → Meaning) (script : S)
    (contents notes : List (Content S))
    (slots : List (maybe.Option (Option (Held S)))) : Type 0 where
  pub script_kept : IsScript (meaning script)
  pub book : Book
  pub value : Held S
  pub in_slot : get_elem? slots 0 ≡ some (some (Some value))
  pub value_is : content_of value ≡ Register script book
  pub counted : slice_get contents 0 ≡ Some (Register script book)
  pub lawful : Lawful (meaning script) book
  pub replays : ReplaysByTicket (meaning script) script contents notes book

-- the counted book is the hall's own script with a book after whose journal the operation has this
-- reply
pub record HasReply {S : Type 0} (m : Meaning) (script : S) (contents : List (Content S)) (op : Op)
    (v : Value) : Type 0 where
  pub book : Book
  pub counted : slice_get contents 0 ≡ Some (Register script book)
  pub lawful : Lawful m book
  pub reply_is : reply (tables_after m book.journal) op ≡ v
