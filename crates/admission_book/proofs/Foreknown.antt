-- What is known of a lawful book.
use Rattle.std.proofs.Common.{◌≡◌, ℕ, zero, suc, ◌<◌, List, [], ◌∷◌, ◌++◌, length, Option, Some, None, true, false, cond, eqb, get_or, refl, sym, ◌∙◌, ap, subst, arith}
use Rattle.std.proofs.Math.ListN.{replicate}
use Rattle.std.proofs.lemmas.Bool.Decides.{nat_tests}
use Rattle.std.proofs.lemmas.Option.{none-some}
use Rattle.std.specs.List.{AllByRecursion}
use Rattle.session_values.specs.declared.op.Op.{Op}
use Rattle.session_values.specs.declared.value.Value.{Value}
use Rattle.session_values.specs.declared.reply.Reply.{Reply}
use Rattle.symbolic_ops.specs.declared.symbol.Symbol.{Symbol}
use Rattle.session_values.specs.Commuting.{Commute, Swaps}
use Rattle.symbolic_ops.specs.Matching.{Matches}
use Rattle.symbolic_ops.specs.Commuting.{CommutesWithAll}
use Rattle.session_values.specs.Dialogue.{Entry}
use Rattle.session_journal.specs.Journal.{DoneOperation, entry_of, done_operations, of_ticket, in_order, entries, begun, ended, after, regrouped}
use Rattle.session_values.specs.Dialogue.{Answers, Dialogue, rest, replies, Follows}
use Rattle.session_journal.specs.Script.{Covers, Meaning, IsScript, session_of}
use Rattle.session_values.specs.Serial.{tables_before}
use Rattle.admission_book.specs.Book.{Serving, Book, record_of, Holds, opened}
use Rattle.admission_book.specs.Lawful.{Lawful}
use Rattle.session_journal.specs.Foreknown.{Foreknown}
use Rattle.session_journal.proofs.Replay.{Instead}
use Rattle.session_journal.proofs.Regroup.{regrouped_replays}
use Rattle.session_journal.proofs.Serving.{serial_values}
use Rattle.session_journal.proofs.Values.{AreReplies}
use Rattle.session_journal.proofs.EventCounts.{few_begun}
use Rattle.session_journal.proofs.Serial.{matched, Settled, Known, all_known, final, differ}
use Rattle.session_journal.proofs.Events.{only_begun}

-- a book's journal regrouped by ticket replays and gives the same tables
pub regrouped_lawful : (m : Meaning) (b : Book) → Lawful m b → Instead (m.opening) (in_order (done_operations b.journal)) (regrouped b.journal)
regrouped_lawful m b L = regrouped_replays (begun b.journal) (m.opening) (done_operations b.journal) (only_begun m (length b.records) b.journal L.turns).done_operations L.inversions L.replays

Commute-sym : (a b : Op) → Commute a b → Commute b a
Commute-sym a b c = record { at = λ ts. let s : Swaps ts a b = c.at ts in record { tables = sym s.tables; first = sym s.second; second = sym s.first } }

pub no_more : (f : Dialogue) (r : Reply) (back : List Entry) → f [] ≡ Answers r → Follows f back → back ≡ []
no_more f r [] a w = refl
no_more f r (e ∷ back) a w = absurd (differ f e.op r w.0 a)

append_nil : (vs : List Value) → vs ++ [] ≡ vs
append_nil [] = refl
append_nil (w ∷ vs) = ap (λ (us : List Value). w ∷ us) (append_nil vs)

-- the operations that a list's symbols stand for commute with a younger ticket's
all_free : (f : List Symbol) (t w : ℕ) → t < w → (ds : List DoneOperation) → AllByRecursion (λ d. t < d.ticket → CommutesWithAll d.op f) ds → (a : Op) → Matches f a → AllByRecursion (λ y. Commute a y.op) (of_ticket w ds)
all_free f t w l [] h a k = tt
all_free f t w l (d ∷ ds) h a k =
    elim (eqb d.ticket w) as (λ v. eqb d.ticket w ≡ v → AllByRecursion (λ (y : Entry). Commute a y.op) (cond v (entry_of d ∷ of_ticket w ds) (of_ticket w ds))) [
      | true ↦ λ e. (Commute-sym d.op a ((h.0 (younger t w d.ticket l e)).each a k), all_free f t w l ds h.1 a k)
      | false ↦ λ e. all_free f t w l ds h.1 a k
    ] refl
  where
    younger : (t w u : ℕ) → t < w → eqb u w ≡ true → t < u
    younger t w u l e = grind (arith, nat_tests)

settled : (m : Meaning) (b : Book) → IsScript m → Lawful m b → (t : ℕ) → t < begun b.journal → Settled m (done_operations b.journal) t
settled m b S L t l = record {
  ends = S.ends t;
  follows = L.follows t;
  values = serial_values m S t (omega (arith, l, few_begun m (length b.records) b.journal L.turns));
  free = λ w younger back v follows. by_end w younger back v follows (ended b.journal t) refl;
}
  where
    ds : List DoneOperation
    ds = done_operations b.journal

    open_free : (w : ℕ) → t < w → (back : List Entry) → AreReplies back → Follows (rest (m.next t) (replies (entries b.journal t))) back → ended b.journal t ≡ None → AllByRecursion (λ x. AllByRecursion (λ (y : Entry). Commute x.op y.op) (entries b.journal w)) back
    open_free w younger back v follows e =
        let p : (c : ℕ) × (s : Serving) × (record_of b c ≡ Some s) × (s.ticket ≡ t) = L.placed t (record { begun = l; not_ended = e }) in
        let s : Serving = p.1 in
        let here : Holds m b p.0 s = L.records p.0 s p.2 in
        let C : ℕ → Type 0 = λ j. Covers (rest (m.next j) (replies (entries b.journal j))) s.foresight in
        let D : ℕ → Type 0 = λ j. AllByRecursion (λ d. j < d.ticket → CommutesWithAll d.op s.foresight) (done_operations b.journal) in
        each s.foresight (subst D p.3 here.done) back (matched (rest (m.next t) (replies (entries b.journal t))) s.foresight back (subst C p.3 here.foresight.covers) v follows)
      where
        each : (f : List Symbol) → AllByRecursion (λ d. t < d.ticket → CommutesWithAll d.op f) (done_operations b.journal) → (xs : List Entry) → AllByRecursion (λ x. Matches f x.op) xs → AllByRecursion (λ x. AllByRecursion (λ (y : Entry). Commute x.op y.op) (entries b.journal w)) xs
        each f h [] k = tt
        each f h (x ∷ xs) k = (all_free f t w younger (done_operations b.journal) h x.op k.0, each f h xs k.1)

    by_end : (w : ℕ) → t < w → (back : List Entry) → AreReplies back → Follows (rest (m.next t) (replies (entries b.journal t))) back → (r : Option Reply) → ended b.journal t ≡ r → AllByRecursion (λ x. AllByRecursion (λ (y : Entry). Commute x.op y.op) (entries b.journal w)) back
    by_end w younger back v follows None e = open_free w younger back v follows e
    by_end w younger back v follows (Some r) e =
        let says : rest (m.next t) (replies (entries b.journal t)) [] ≡ Answers r = ap (m.next t) (append_nil (replies (entries b.journal t))) ∙ L.answered t r e in
        let P : List Entry → Type 0 = λ es. AllByRecursion (λ x. AllByRecursion (λ (y : Entry). Commute x.op y.op) (entries b.journal w)) es in
        subst P (sym (no_more (rest (m.next t) (replies (entries b.journal t))) r back says follows)) tt

-- each begun ticket's entries are the first of its serial ones, and its Reply the serial one
pub foreknown : (m : Meaning) (b : Book) → IsScript m → Lawful m b → (t : ℕ) → t < begun b.journal → Foreknown m b.journal t
foreknown m b S L t l =
    let k : Known m (done_operations b.journal) t = all_known m (done_operations b.journal) (begun b.journal) (settled m b S L) (regrouped_lawful m b L).replays t l in
    record { entries = k.entries; answer = λ r e. k.answer r (L.answered t r e) }

-- an opened book is lawful
pub opened_lawful : (m : Meaning) (callers : ℕ) → Lawful m (opened m.requests callers)
opened_lawful m callers = record {
  replays = tt;
  follows = λ t. tt;
  answered = λ t r e. absurd (none-some r e);
  kept = λ t. nothing m.requests t;
  inversions = tt;
  records = λ c s e. absurd (none-some s (sym (nothing callers c) ∙ e));
  placed = λ t o. absurd (omega (arith, o.begun));
  turns = tt;
}
  where
    nothing : {X : Type 0} (n i : ℕ) → get_or {A = Option X} (replicate n None) i None ≡ None
    nothing zero i = refl
    nothing (suc n) zero = refl
    nothing {X} (suc n) (suc i) = nothing {X = X} n i

-- where all begun tickets have ended, the tables are those of serving them one at a time
pub all_ended : (m : Meaning) (b : Book) → IsScript m → Lawful m b → ((t : ℕ) → t < begun b.journal → (r : Reply) × (ended b.journal t ≡ Some r)) → after m.opening b.journal ≡ tables_before (session_of m) (begun b.journal)
all_ended m b S L e =
    sym (regrouped_lawful m b L).same ∙ final m (done_operations b.journal) (begun b.journal) (settled m b S L) (λ t l. let p : (r : Reply) × (ended b.journal t ≡ Some r) = e t l in (p.0, L.answered t p.0 p.1)) (regrouped_lawful m b L).replays
