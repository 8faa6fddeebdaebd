-- A caller that keeps the book, and the shards that it takes meanwhile, from one call to the next.
use Rattle.std.specs.Prelude.{◌≡◌, ℕ, suc, ◌+◌, ◌*◌, ◌<◌, ◌≤◌, List, Option, Some, None, length}
use Rattle.session_values.specs.Limits.{max_shards}
use Rattle.session_values.specs.declared.op.Op.{Op}
use Rattle.session_values.specs.declared.value.Value.{Value}
use Rattle.session_values.specs.Dialogue.{Calls, Entry}
use Rattle.session_values.specs.Tables.{Container, reply}
use Rattle.symbolic_ops.specs.declared.symbol.Symbol.{Symbol}
use Rattle.symbolic_ops.specs.Matching.{Matches}
use Rattle.session_journal.specs.EventsInTurn.{now}
use Rattle.session_journal.specs.Journal.{begun, entries}
use Rattle.session_journal.specs.Script.{Meaning, IsScript}
use Rattle.admission_book.specs.Book.{Book, IsFree, record_of}
use Rattle.admission_book.specs.Lawful.{Lawful}
use Rattle.admission_book.specs.Methods.{BookView}
use Rattle.turn_board.specs.Boards.{held, note, caller, caller_count}
use Rattle.turn_board.specs.Hands.{Once, in_hands, put_back}
use Rattle.turn_board.specs.Limits.{max_board_turns}
use Rattle.turn_board.specs.Maps.{SameTurns}
use Rattle.turn_board.specs.Passes.{IsSeated}
use Rattle.hall_rule.specs.declared.held.Held.{Held}
use Rattle.hall_rule.specs.declared.held.Held.TheVariants as value
use Rattle.hall_rule.specs.Contents.{Content, Register, Shard, needed, shards_in, tables_after}
use Rattle.hall_rule.specs.Shards.{content_of}
use Rattle.hall_rule.specs.Tie.{Moves}
use Rattle.hall_rule.specs.Turns.{ChangedBy, IsTurnOf}
use Rattle.session_hall.specs.declared.caller.Caller.{Caller}
use Rattle.session_hall.specs.declared.hall.Hall.{Hall}
use Rattle.session_hall.specs.declared.holding.Holding.{Holding}
use Rattle.session_hall.specs.declared.stage.Stage.{Stage}
use Rattle.session_hall.specs.declared.stage.Stage.TheVariants.{Idle, Serving as Serves}
use Rattle.session_hall.specs.declared.stage.Stage.TheVariants.{InFlight, Applied, Out}
use Rattle.session_hall.specs.Begun.{tickets_by}
use Rattle.session_hall.specs.Callers.{IsCallerIn, book_of}
use Rattle.session_hall.specs.Findings.{Finds}
use Rattle.session_hall.specs.Names.{HallId, id_of, hall_name, script_of}
use Rattle.session_hall.specs.Stages.{SeatOf, foresight_in, waiting}

-- ---- the book that a holding works on
-- the one in hand, and while none is, that of its caller's note
abbrev pub book_at : {S : Type 0} → Option (BookView S) → Book → Book
book_at (Some v) noted = v.book
book_at None noted = noted

abbrev pub present_book : {S : Type 0} → Holding S → Book
present_book h = book_at h.book (book_of h.caller)

-- the entries of a ticket in it
abbrev pub entries_at : {S : Type 0} → Holding S → ℕ → List Entry
entries_at h t = entries (present_book h).journal t

-- what the ticket of the holding's caller may still call, by the caller's record in it
abbrev pub foresight_at : {S : Type 0} → Holding S → List Symbol
foresight_at h = foresight_in (record_of (present_book h) h.caller.number)

-- the tickets that the holding's caller has begun, by its journal
abbrev pub begun_at : {S : Type 0} → Holding S → List ℕ
begun_at h = tickets_by (caller h.caller.seat) (present_book h).journal

-- a book is in hand
abbrev pub IsKept : {S : Type 0} → Option (BookView S) → Type 0
IsKept (Some v) = Unit {0}
IsKept None = ⊥

-- ---- what is in hand
module _ {S : Type 0} (meaning : S → Meaning) (turns : ℕ) where
  -- what is in hand may be given back in one step, as one change of the counted contents
  abbrev pub MayGive : BookView S → SeatOf S → List (ℕ × Held S) → Type 0
  MayGive b s xs = Moves meaning turns (caller s) (held s)
      (put_back content_of (value.Register b) xs)

  -- the operation was done on its shards in hand, and isn't entered in the book in hand: all of its
  -- turns are held, and each has what the operation makes of what was there before; what was there
  -- before might have been given back. Nobody delays the operation, and v is its reply after the
  -- journal in hand
  pub record IsWorked (t : ℕ) (op : Op) (v : Value) (f : List Symbol) (b : BookView S)
      (s : SeatOf S) (xs : List (ℕ × Held S)) : Type 0 where
    pub before : ℕ → Option (Content S)
    pub moves : Moves meaning turns (caller s) (held s) before
    pub book : before 0 ≡ Some (Register b.script b.book)
    pub each : (j : ℕ) → IsTurnOf (shards_in (meaning b.script) turns) op j
        → ChangedBy op (before (suc j)) (in_hands content_of xs (suc j))
    pub others : (j : ℕ) → (IsTurnOf (shards_in (meaning b.script) turns) op j → ⊥)
        → in_hands content_of xs (suc j) ≡ before (suc j)
    pub all : (j : ℕ) → IsTurnOf (shards_in (meaning b.script) turns) op j
        → before (suc j) ≡ None → ⊥
    pub calls : now (meaning b.script) b.book.journal t ≡ Calls op
    pub matches : Matches f op
    pub free : IsFree b.book t op
    pub reply_is : reply (tables_after (meaning b.script) b.book.journal) op ≡ v

  -- the caller's record in the book in hand, and what else is in hand, by its stage
  abbrev pub StandsKept : Stage → List Symbol → BookView S → SeatOf S → List (ℕ × Held S) → Type 0
  StandsKept Idle f b s xs = (record_of b.book (caller s) ≡ None) × MayGive b s xs
  StandsKept (Serves t) f b s xs = (record_of b.book (caller s) ≡ Some (waiting t f))
      × MayGive b s xs
  StandsKept (InFlight t op) f b s xs = ⊥
  StandsKept (Applied t op v) f b s xs = (record_of b.book (caller s) ≡ Some (waiting t f))
      × IsWorked t op v f b s xs
  StandsKept Out f b s xs = (record_of b.book (caller s) ≡ None)
      × ((meaning b.script).requests ≤ begun b.book.journal) × MayGive b s xs

-- its seat is of the hall's board, its note is a lawful book of the hall's script, it has the book
-- and the shards in its hands and no other turns, each shard with room for all that may come, and
-- what is in hand is as its stage says. The counted book is one that it found after its note
pub record IsKeeperIn {S : Type 0} (meaning : S → Meaning) (p : HallId) (script : S)
    (c : Caller S) (b : BookView S) : Type 0 where
  pub seat : IsSeated p.board c.seat.pass.token
  pub number_is : caller c.seat ≡ c.number
  pub caller_count_is : caller_count c.seat ≡ p.callers
  pub noted : note c.seat ≡ Some (Register script (book_of c))
  pub script_kept : IsScript (meaning script)
  pub tables_are : length (meaning script).shape ≡ p.tables
  pub some_shards : 0 < p.shards
  pub few_shards : p.shards ≤ max_shards
  pub turns_are : p.board.slots ≡ 1 + p.tables * p.shards
  pub few_turns : p.board.slots ≤ max_board_turns
  pub hands_room : max_board_turns ≤ c.hands.room
  pub once : Once content_of c.hands.pairs
  pub script_is : b.script ≡ script
  pub lawful : Lawful (meaning script) b.book
  pub found : Book
  pub here : held c.seat 0 ≡ Some (Register script found)
  pub finds : Finds (meaning script) (book_of c) found (caller c.seat) (caller_count c.seat)
  pub rooms : (j : ℕ) (y : Container) (room : ℕ) → held c.seat (suc j) ≡ Some (Shard y room)
      → needed (meaning script) p.board.slots j ≤ room
  pub same_turns : SameTurns (held c.seat) (put_back content_of (value.Register b) c.hands.pairs)
  pub stands : StandsKept meaning p.board.slots c.stage
      (foresight_in (record_of b.book c.number)) b c.seat c.hands.pairs

-- it is a caller of the hall, and what it has in hand is as it says
abbrev pub IsHoldingWith : {S : Type 0} → (S → Meaning) → HallId → S → Caller S
    → Option (BookView S) → Type 0
IsHoldingWith meaning p script c None = IsCallerIn meaning p script c
IsHoldingWith meaning p script c (Some b) = IsKeeperIn meaning p script c b

-- a holding of the hall of this name, which serves this script
abbrev pub IsHoldingAt : {S : Type 0} → (S → Meaning) → List ℕ → S → Holding S → Type 0
IsHoldingAt meaning name script h = IsHoldingWith meaning (id_of name) script h.caller h.book

-- a holding of this hall
abbrev pub IsHoldingOf : {S : Type 0} → (S → Meaning) → Hall S → Holding S → Type 0
IsHoldingOf meaning hall h = IsHoldingAt meaning (hall_name hall) (script_of hall) h

-- q is a holding of this hall, with the caller's number of p
abbrev pub StaysHolding : {S : Type 0} → (S → Meaning) → Hall S → Holding S → Holding S → Type 0
StaysHolding meaning hall p q = IsHoldingOf meaning hall q × (q.caller.number ≡ p.caller.number)
