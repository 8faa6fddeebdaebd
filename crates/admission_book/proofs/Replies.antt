-- The replies of a book.
use Rattle.std.proofs.Common.{◌≡◌, ℕ, zero, suc, ◌<◌, ◌≤◌, List, [], ◌∷◌, ◌++◌, inl, inr, Option, Some, None, length, get_or, take, replicate, refl, sym, ◌∙◌, ap, subst, arith}
use mathlib.Core.List.{map}
use Rattle.std.specs.Option.{IsSome, IfSome}
use Rattle.std.specs.List.{AllByRecursion}
use Rattle.std.proofs.Math.Seq.{take-suc}
use Rattle.std.proofs.lemmas.List.{length-map, take_all}
use Rattle.std.proofs.lemmas.Bool.{cases_lt}
use Rattle.std.proofs.lemmas.Option.{none-some}
use Rattle.session_values.specs.declared.reply.Reply.{Reply}
use Rattle.session_values.specs.Serial.{answered, serial, serial_replies, tables_before}
use Rattle.session_journal.specs.Journal.{begun, ended, after}
use Rattle.session_journal.specs.Script.{Meaning, IsScript, session_of}
use Rattle.admission_book.specs.Book.{Book, Serving}
use Rattle.admission_book.specs.Lawful.{Lawful}
use Rattle.admission_book.specs.CallerRecord.{servings, idle_record}
use Rattle.session_journal.proofs.Events.{only_begun}
use Rattle.admission_book.proofs.Foreknown.{foreknown, all_ended}
use Rattle.session_journal.proofs.EventCounts.{few_begun}

some_is : (o : Option Reply) → IsSome o → (r : Reply) × (o ≡ Some r)
some_is (Some r) h = (r, refl)
some_is None h = absurd (impossible h)
  where
    impossible : IsSome {T = Reply} None → ⊥
    impossible h = cc

-- a ticket that has ended is begun
ended_begun : (m : Meaning) (b : Book) → Lawful m b → (t : ℕ) (r : Reply) → ended b.journal t ≡ Some r → t < begun b.journal
ended_begun m b L t r e = elim (cases_lt t (begun b.journal)) [
  | inl l ↦ l
  | inr l ↦ absurd (none-some r (sym ((only_begun m (length b.records) b.journal L.turns).ended t l) ∙ e))
]

-- the Reply of an ended ticket is the serial one
pub serial_ended : (m : Meaning) (b : Book) → IsScript m → Lawful m b → (t : ℕ) (r : Reply) → ended b.journal t ≡ Some r → (serial (session_of m) t).answer ≡ Some r
serial_ended m b S L t r e = (foreknown m b S L t (ended_begun m b L t r e)).answer r e

pub serial_if : (m : Meaning) (b : Book) → IsScript m → Lawful m b → (t : ℕ) (o : Option Reply) → o ≡ ended b.journal t → IfSome o (λ r. (serial (session_of m) t).answer ≡ Some r)
serial_if m b S L t None e = tt
serial_if m b S L t (Some r) e = serial_ended m b S L t r (sym e)

-- ---- all tickets have ended
all_kept : (xs : List (Option Reply)) → ((t : ℕ) → t < length xs → IsSome (get_or xs t None)) → AllByRecursion (λ o. IsSome o) xs
all_kept [] h = tt
all_kept (x ∷ xs) h = (h 0 (omega arith), all_kept xs (λ t l. h (suc t) (omega arith)))

module _ (m : Meaning) (b : Book) (S : IsScript m) (L : Lawful m b) (done : (t : ℕ) → t < m.requests → IsSome (ended b.journal t)) where
  pub kept_some : (xs : List (Option Reply)) → xs ≡ b.kept → length b.kept ≡ m.requests → AllByRecursion (λ o. IsSome o) xs
  kept_some xs same each =
      let P : List (Option Reply) → Type 0 = λ l. AllByRecursion (λ o. IsSome o) l in
      let Q : Option Reply → Type 0 = λ o. IsSome o in
      subst P (sym same) (all_kept b.kept (λ t l. subst Q (sym (L.kept t)) (done t (omega arith))))

  all_begun : begun b.journal ≡ m.requests
  all_begun = elim (cases_lt (begun b.journal) m.requests) [
    | inl l ↦ let x : (r : Reply) × (ended b.journal (begun b.journal) ≡ Some r) = some_is (ended b.journal (begun b.journal)) (done (begun b.journal) l) in let k : begun b.journal < begun b.journal = ended_begun m b L (begun b.journal) x.0 x.1 in omega arith
    | inr l ↦ omega (arith, few_begun m (length b.records) b.journal L.turns)
  ]

  pub tables_serial : after m.opening b.journal ≡ tables_before (session_of m) m.requests
  tables_serial = all_ended m b S L (λ t l. some_is (ended b.journal t) (done t (omega (arith, l, all_begun)))) ∙ ap (tables_before (session_of m)) all_begun

  -- the first n replies
  first_serial : (rs : List Reply) → map (λ (r : Reply). Some r) rs ≡ b.kept → (n : ℕ) → n ≤ length rs → n ≤ m.requests → serial_replies (session_of m) n ≡ take n rs
  first_serial rs is zero l k = refl
  first_serial rs is (suc n) l k =
      let h : n < length rs = omega arith in
      let x : (r : Reply) × (ended b.journal n ≡ Some r) = some_is (ended b.journal n) (done n (omega arith)) in
      let at : ◌≡◌ {A = Option Reply} (Some (get_or rs n x.0)) (Some x.0) = sym (at_map rs n x.0 h) ∙ ap (λ (os : List (Option Reply)). get_or os n None) is ∙ L.kept n ∙ x.1 in
      ap (λ (os : List Reply). os ++ answered (serial (session_of m) n).answer) (first_serial rs is n (omega arith) (omega arith))
      ∙ ap (λ (o : Option Reply). take n rs ++ answered o) (serial_ended m b S L n x.0 x.1 ∙ sym at)
      ∙ sym (take-suc rs n x.0 h)
    where
      at_map : (rs : List Reply) (n : ℕ) (d : Reply) → n < length rs → get_or (map (λ (r : Reply). Some r) rs) n None ≡ Some (get_or rs n d)
      at_map [] n d l = absurd (omega arith)
      at_map (r ∷ rs) zero d l = refl
      at_map (r ∷ rs) (suc n) d l = at_map rs n d (omega arith)

  pub replies_serial : (rs : List Reply) → map (λ (r : Reply). Some r) rs ≡ b.kept → length b.kept ≡ m.requests → rs ≡ serial_replies (session_of m) m.requests
  replies_serial rs is each =
      let same : length rs ≡ m.requests = sym (length-map rs (λ (r : Reply). Some r)) ∙ ap (λ (os : List (Option Reply)). length os) is ∙ each in
      sym (first_serial rs is m.requests (omega arith) (omega arith) ∙ take_all m.requests rs (omega arith))

-- ---- an opened book shows no record
pub none_served : (m : Meaning) (n : ℕ) → servings m (replicate n idle_record) ≡ replicate n None
none_served m zero = refl
none_served m (suc n) = ap (λ (us : List (Option Serving)). None ∷ us) (none_served m n)
