-- A holding of a hall is one of each hall with the same script and name, and has its number and the
-- tickets that it has begun; and the reply of a ticket that it has ended is the serial one.
use Rattle.std.proofs.Common.{◌≡◌, ◌∙◌, ℕ, ◌<◌, List, [], ◌∷◌, ◌++◌, Option, Some, None, length, slice_get, subst}
use Rattle.session_values.specs.declared.reply.Reply.{Reply}
use Rattle.session_values.specs.Serial.{serial_replies}
use Rattle.session_values.proofs.Serial.{at_serial}
use Rattle.session_journal.specs.Foreknown.{Foreknown}
use Rattle.session_journal.specs.Journal.{begun, ended}
use Rattle.session_journal.specs.Script.{Meaning, IsScript, session_of}
use Rattle.admission_book.specs.Book.{Book}
use Rattle.admission_book.specs.Lawful.{Lawful}
use Rattle.admission_book.specs.Methods.{BookView}
use Rattle.session_hall.specs.declared.hall.Hall.{Hall}
use Rattle.session_hall.specs.declared.holding.Holding.{Holding}
use Rattle.session_hall.specs.declared.stage.Stage.TheVariants.{Idle}
use Rattle.session_hall.specs.Callers.{book_of}
use Rattle.session_hall.specs.Holdings.{IsHoldingAt, IsHoldingOf, IsHoldingWith, StaysHolding, begun_at, book_at, present_book}
use Rattle.session_hall.specs.Names.{hall_name, id_of, script_of}
use Rattle.hall_serving.specs.KeptJobs.{HasServedKept}
use Rattle.hall_serving.proofs.Homes.{same_front}
use Rattle.hall_serving.proofs.SerialReplies.{Answers}

-- ---- what names a home, taken apart
module _ {S : Type 0} (g h : Hall S) (c o : Holding S) (p q : ℕ) where
  abbrev pub SameKept : Type 0
  SameKept = ◌≡◌ {A = List ℕ} (p ∷ c.caller.number ∷ length (begun_at c) ∷ begun_at c ++ hall_name g) (q ∷ o.caller.number ∷ length (begun_at o) ∷ begun_at o ++ hall_name h)

  fronts_kept : SameKept → (begun_at c ≡ begun_at o) × (hall_name g ≡ hall_name h)
  fronts_kept home =
      let long : length (begun_at c) ≡ length (begun_at o) = cc in
      let rest : begun_at c ++ hall_name g ≡ begun_at o ++ hall_name h = cc in
      same_front (begun_at c) (begun_at o) (hall_name g) (hall_name h) long rest

  number_kept : SameKept → c.caller.number ≡ o.caller.number
  number_kept home = cc

pub begun_kept : {S : Type 0} (g h : Hall S) (c o : Holding S) (p q : ℕ) → SameKept g h c o p q → begun_at c ≡ begun_at o
begun_kept g h c o p q home = (fronts_kept g h c o p q home).0

pub stays_kept : {S : Type 0} (meaning : S → Meaning) (g h : Hall S) (c o : Holding S) (p q : ℕ) → script_of g ≡ script_of h → SameKept g h c o p q → IsHoldingOf meaning g c → StaysHolding meaning h o c
stays_kept {S} meaning g h c o p q script home k =
    let P : List ℕ → Type 0 = λ l. IsHoldingAt meaning l (script_of g) c in
    let Q : S → Type 0 = λ s. IsHoldingAt meaning (hall_name h) s c in
    (subst Q script (subst P (fronts_kept g h c o p q home).1 k), number_kept g h c o p q home)

-- ---- the serial reply
abbrev pub Foreknows : Type 0
Foreknows = (m : Meaning) (b : Book) (t : ℕ) → IsScript m → Lawful m b → t < begun b.journal → Foreknown m b.journal t

lawful_at : {S : Type 0} (meaning : S → Meaning) (h : Hall S) (q : Holding S) → IsHoldingOf meaning h q → IsScript (meaning (script_of h)) × Lawful (meaning (script_of h)) (present_book q)
lawful_at {S} meaning h q k = go q.book k
  where
    go : (b : Option (BookView S)) → IsHoldingWith meaning (id_of (hall_name h)) (script_of h) q.caller b → IsScript (meaning (script_of h)) × Lawful (meaning (script_of h)) (book_at b (book_of q.caller))
    go None k = (k.script_kept, k.lawful)
    go (Some v) k = (k.script_kept, k.lawful)

pub serves_kept : Answers → Foreknows → {S : Type 0} (meaning : S → Meaning) (h : Hall S) (p q : Holding S) (plan : S) (t : ℕ) (r : Reply) → IsHoldingOf meaning h q → begun_at q ≡ begun_at p ++ t ∷ [] → script_of h ≡ plan → t < (meaning (script_of h)).requests → q.caller.stage ≡ Idle
    → (t < begun (present_book q).journal) × (ended (present_book q).journal t ≡ Some r) → HasServedKept (serial_replies (session_of (meaning plan)) (meaning plan).requests) p q t r
serves_kept answers knows {S} meaning h p q plan t r is more same low idle known =
    let P : S → Type 0 = λ x. slice_get (serial_replies (session_of (meaning x)) (meaning x).requests) t ≡ Some r in
    let l = lawful_at meaning h q is in
    let m = meaning (script_of h) in
    record {
      begun_more = more;
      idle = idle;
      begun_is = known.0;
      ended_is = known.1;
      serial_is = subst P same (at_serial (session_of m) (λ u. answers m u l.0) m.requests t low ∙ (knows m (present_book q) t l.0 l.1 known.0).answer r known.1);
    }
