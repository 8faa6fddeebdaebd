-- Which tickets a caller has begun.
use Rattle.std.specs.Prelude.{ℕ, ◌==◌, List, [], ◌∷◌, cond}
use Rattle.session_journal.specs.declared.event.Event.{Event}
use Rattle.session_journal.specs.declared.event.Event.TheVariants.{Begin}
use Rattle.turn_board.specs.Boards.{caller}
use Rattle.session_hall.specs.declared.caller.Caller.{Caller}
use Rattle.session_hall.specs.Callers.{book_of}

-- the tickets that this caller has begun, in the order of the journal
abbrev pub tickets_by : ℕ → List Event → List ℕ
tickets_by c [] = []
tickets_by c (Begin t d ∷ J) = cond (d == c) (t ∷ tickets_by c J) (tickets_by c J)
tickets_by c (_ ∷ J) = tickets_by c J

-- the same of a caller, by the journal of its note
abbrev pub begun_by : {S : Type 0} → Caller S → List ℕ
begun_by c = tickets_by (caller c.seat) (book_of c).journal
