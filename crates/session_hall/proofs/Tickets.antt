-- A caller that serves a ticket finds the book, and what its note allows is allowed there.
use Rattle.std.proofs.Common.{◌≡◌, ℕ, List, [], ◌∷◌, ◌++◌, Some, refl, sym, ◌∙◌, subst}
use Rattle.session_values.specs.declared.op.Op.{Op}
use Rattle.session_values.specs.Dialogue.{Calls, Entry, replies}
use Rattle.symbolic_ops.specs.Matching.{Matches}
use Rattle.session_journal.specs.declared.event.Event.{Event}
use Rattle.session_journal.specs.Journal.{entries, owner, caller_of}
use Rattle.session_journal.specs.Script.{Meaning}
use Rattle.admission_book.specs.Book.{Holds, record_of}
use Rattle.admission_book.specs.Methods as books
use Rattle.admission_book.specs.Methods.{BookView, IsOldestOpen}
use Rattle.session_journal.proofs.Events.{first_stays}
use Rattle.turn_board.specs.Boards.{SameNote, turn_count, caller}
use Rattle.hall_rule.proofs.Entries.{entries_since}
use Rattle.session_hall.specs.declared.caller.Caller.{Caller}
use Rattle.session_hall.specs.declared.hall.Hall.{Hall}
use Rattle.session_hall.specs.declared.stage.Stage.{Stage}
use Rattle.session_hall.specs.declared.stage.Stage.TheVariants.{Serving as Serves}
use Rattle.session_hall.specs.Callers.{IsCallerOf, book_of, entries_of, foresight_of}
use Rattle.session_hall.specs.Calls.{ByNote, MayCall}
use Rattle.session_hall.specs.Findings.{HasBook}
use Rattle.session_hall.specs.Names.{script_of}
use Rattle.session_hall.specs.Stages.{SeatOf, Stands, OnServing, waiting}
use Rattle.session_hall.proofs.Giving.{at_script}

pub on_serving : (st : Stage) (t : ℕ) (P : ℕ → Type 0) → st ≡ Serves t → P t → OnServing st P
on_serving st t P e p = let Q : Stage → Type 0 = λ s. OnServing s P in subst Q (sym e) p

pub of_serving : (st : Stage) (t : ℕ) (P : ℕ → Type 0) → st ≡ Serves t → OnServing st P → P t
of_serving st t P e p = let Q : Stage → Type 0 = λ s. OnServing s P in subst Q e p

-- ---- a caller that serves a ticket
module _ {S : Type 0} (meaning : S → Meaning) (h : Hall S) (c : Caller S) (k : IsCallerOf meaning h c) (q : SeatOf S) (b : BookView S) (v : SameNote c.seat q) (f : HasBook c.seat q meaning (script_of h) (turn_count h.board) b) (t : ℕ) (st : c.stage ≡ Serves t) where
  stands_here : Stands (meaning (script_of h)) (turn_count h.board) (Serves t) (foresight_of c) (book_of c) c.seat c.hands.pairs
  stands_here = let P : Stage → Type 0 = λ s. Stands (meaning (script_of h)) (turn_count h.board) s (foresight_of c) (book_of c) c.seat c.hands.pairs in subst P st k.stands

  pub empty_hands : c.hands.pairs ≡ []
  empty_hands = stands_here.1.no_pairs

  pub own_record : record_of b.book (caller c.seat) ≡ Some (waiting t (foresight_of c))
  own_record = sym f.finds.since.own ∙ stands_here.0

  pub holds : Holds (meaning (script_of h)) b.book (caller c.seat) (waiting t (foresight_of c))
  holds = f.finds.lawful.records (caller c.seat) (waiting t (foresight_of c)) own_record

  pub still : entries b.book.journal t ≡ entries_of c t
  still = entries_since (book_of c) b.book (caller c.seat) t f.finds.since holds.owner

  -- what the note allows is allowed at the book that was found
  by_note : (P : Meaning → List Entry → ℕ → Type 0) → OnServing c.stage (λ u. P (meaning (script_of h)) (entries_of c u) u) → P (meaning b.script) (entries b.book.journal t) t
  by_note P may =
      let a : P (meaning (script_of h)) (entries_of c t) t = of_serving c.stage t (λ u. P (meaning (script_of h)) (entries_of c u) u) st may in
      let R : List Entry → Type 0 = λ es. P (meaning b.script) es t in
      subst R (sym still) (at_script meaning h c k q b v f (λ m. P m (entries_of c t) t) a)

  pub may_admit : (op : Op) → ByNote (meaning (script_of h)) c (MayCall (foresight_of c) op) → books.MayAdmit (meaning b.script) b.book t op
  may_admit op may =
      let a : MayCall (foresight_of c) op (meaning b.script) b.book t = by_note (λ m es u. (m.next u (replies es) ≡ Calls op) × Matches (foresight_of c) op) may in
      record { caller = caller c.seat; serving = waiting t (foresight_of c); is = own_record; ticket = refl; idle = refl; calls = a.0; matches = a.1 }

  pub owner_more : (e : Event) → owner (b.book.journal ++ e ∷ []) t ≡ Some (caller c.seat)
  owner_more e = first_stays (caller_of t) b.book.journal (e ∷ []) (caller c.seat) holds.owner
