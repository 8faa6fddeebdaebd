-- The book in hand is lawful, so the reply that it knows of a ticket is the serial one.
use Rattle.std.proofs.Common.{◌≡◌, ◌∙◌, ℕ, ◌<◌, inl, inr, length, Option, Some, None, slice_get, sym, ap, subst, arith}
use Rattle.std.specs.Option.{IfSome}
use Rattle.std.proofs.lemmas.Bool.{cases_lt}
use Rattle.std.proofs.lemmas.Option.{none-some}
use Rattle.session_values.specs.declared.reply.Reply.{Reply}
use Rattle.session_values.specs.Serial.{serial, serial_replies}
use Rattle.session_values.proofs.Serial.{at_serial}
use Rattle.session_journal.specs.Journal.{begun, ended}
use Rattle.session_journal.specs.Script.{Meaning, IsScript, session_of}
use Rattle.session_journal.proofs.Events.{only_begun}
use Rattle.session_journal.proofs.EventCounts.{few_begun}
use Rattle.admission_book.specs.Book.{Book}
use Rattle.admission_book.specs.Lawful.{Lawful}
use Rattle.admission_book.specs.Methods.{BookView}
use Rattle.session_hall.specs.declared.holding.Holding.{Holding}
use Rattle.session_hall.specs.Callers.{book_of}
use Rattle.session_hall.specs.Holdings.{IsHoldingWith, book_at}
use Rattle.session_hall.specs.Names.{HallId, hall_name, id_of, script_of}
use Rattle.session_hall.proofs.Kept.{in_hand}
use Rattle.session_hall.proofs.holding.Holding.reply.Goals as goal

-- a ticket that has ended is one of the script's
low : (m : Meaning) (b : Book) → Lawful m b → (t : ℕ) (r : Reply) → ended b.journal t ≡ Some r → t < m.requests
low m b L t r e = elim (cases_lt t (begun b.journal)) [
  | inl l ↦ omega (arith, l, few_begun m (length b.records) b.journal L.turns)
  | inr l ↦ absurd (none-some r (sym ((only_begun m (length b.records) b.journal L.turns).ended t l) ∙ e))
]

abbrev AllAnswer : Type 0
AllAnswer = (m : Meaning) (t : ℕ) → IsScript m → (r : Reply) × ((serial (session_of m) t).answer ≡ Some r)

at_place : AllAnswer → (m : Meaning) (b : Book) → IsScript m → Lawful m b → (t : ℕ) (o : Option Reply) → o ≡ ended b.journal t → IfSome o (λ r. (serial (session_of m) t).answer ≡ Some r) → IfSome o (λ r. slice_get (serial_replies (session_of m) m.requests) t ≡ Some r)
at_place answers m b S L t None e h = tt
at_place answers m b S L t (Some r) e h = at_serial (session_of m) (λ u. answers m u S) m.requests t (low m b L t r (sym e)) ∙ h

-- what the book in hand says of a ticket
module _ {S : Type 0} (meaning : S → Meaning) (p : HallId) (script : S) (h : Holding S) (v : BookView S) (e : h.book ≡ Some v) (k : IsHoldingWith meaning p script h.caller h.book) where
  lawful_here : Lawful (meaning v.script) v.book
  lawful_here = let i = in_hand meaning p script h (Some v) e k in subst (λ (x : S). Lawful (meaning x) v.book) (sym i.script_is) i.lawful

  ended_here : (t : ℕ) (o : Option Reply) → (Lawful (meaning v.script) v.book → o ≡ ended v.book.journal t) → o ≡ ended (book_at h.book (book_of h.caller)).journal t
  ended_here t o is = is lawful_here ∙ sym (ap (λ (x : Option (BookView S)). ended (book_at x (book_of h.caller)).journal t) e)

  serial_here : AllAnswer → (t : ℕ) (o : Option Reply) → (Lawful (meaning v.script) v.book → o ≡ ended v.book.journal t) → (Lawful (meaning v.script) v.book → IfSome o (λ r. (serial (session_of (meaning v.script)) t).answer ≡ Some r))
      → IfSome o (λ r. slice_get (serial_replies (session_of (meaning script)) (meaning script).requests) t ≡ Some r)
  serial_here answers t o is serial_is =
      let i = in_hand meaning p script h (Some v) e k in
      let P : S → Type 0 = λ x. IfSome o (λ r. slice_get (serial_replies (session_of (meaning x)) (meaning x).requests) t ≡ Some r) in
      subst P i.script_is (at_place answers (meaning v.script) v.book (subst (λ (x : S). IsScript (meaning x)) (sym i.script_is) i.script_kept) lawful_here t o (is lawful_here) (serial_is lawful_here))

pub returns-clause-ended : goal.returns-clause-ended
returns-clause-ended g c = ended_here g.S.Tickets.meaning (id_of (hall_name c.args.hall.now)) (script_of c.args.hall.now) c.args.self.now c.in-Some.book c.in-Some.is c.requires.holding c.args.ticket c.reply.result c.reply.ensures.ended

pub returns-clause-serial : goal.returns-clause-serial
returns-clause-serial g c = serial_here g.S.Tickets.meaning (id_of (hall_name c.args.hall.now)) (script_of c.args.hall.now) c.args.self.now c.in-Some.book c.in-Some.is c.requires.holding c.answering.ensures c.args.ticket c.reply.result c.reply.ensures.ended c.reply.ensures.serial
