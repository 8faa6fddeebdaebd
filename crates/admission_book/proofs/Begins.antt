-- The fields of a book in which a ticket begins.
use Rattle.std.proofs.Common.{◌≡◌, ◌≢◌, ℕ, ◌+◌, ◌<◌, List, [], ◌∷◌, ◌++◌, Option, Some, None, false, length, get_or, refl, sym, ◌∙◌, ap, arith}
use Rattle.std.proofs.Math.ListN.{set}
use Rattle.std.proofs.lemmas.List.{length-map}
use Rattle.session_values.specs.declared.reply.Reply.{Reply}
use Rattle.symbolic_ops.specs.declared.symbol.Symbol.{Symbol}
use Rattle.symbolic_ops.proofs.Above.{covered_itself}
use Rattle.session_journal.specs.declared.event.Event.{Event}
use Rattle.session_journal.specs.declared.event.Event.TheVariants.{Begin}
use Rattle.session_journal.specs.Journal.{begun}
use Rattle.session_journal.specs.Script.{Meaning, IsScript}
use Rattle.admission_book.specs.Book.{Book, Serving, record_of, after_begin}
use Rattle.session_journal.specs.EventsInTurn.{is_delayed}
use Rattle.admission_book.specs.Lawful.{Lawful}
use Rattle.admission_book.specs.declared.caller_record.CallerRecord.{CallerRecord}
use Rattle.admission_book.specs.CallerRecord.{IsRecord, serving_of, servings, record_at}
use Rattle.admission_book.specs.Methods.{MayBeginNext, Begins}
use Rattle.admission_book.specs.Kept.{book_of, KeepsRecord}
use Rattle.session_journal.proofs.Events.{begun_more}
use Rattle.admission_book.proofs.Keep.{keeps_begin}
use Rattle.session_journal.proofs.EventCounts.{is_delayed-append}
use Rattle.admission_book.proofs.Shown.{serving_so, shown, keeps_has, keeps_more, keeps_set, cond_same}

pub lines : (m : Meaning) (rs : List CallerRecord) → length (servings m rs) ≡ length rs
lines m rs = length-map rs (λ (r : CallerRecord). serving_of m r)

-- what a ticket declares at its beginning may be its foresight then
pub may_begin_next : (m : Meaning) (b : Book) (i : ℕ) → IsScript m → (i < length b.records) × (record_of b i ≡ None) → MayBeginNext m b i (m.entry (begun b.journal))
may_begin_next m b i s near = record {
  caller = near.0;
  idle = near.1;
  entry = λ l. s.entry (begun b.journal);
  declared = λ l. covered_itself (m.entry (begun b.journal)) (s.entry (begun b.journal)).known;
}

module _ (m : Meaning) (J : List Event) (k : List (Option Reply)) (rs : List CallerRecord) (n i : ℕ) (f : List Symbol)
    (L : Lawful m (book_of m J k rs)) (may : MayBeginNext m (book_of m J k rs) i f) (left : n < m.requests) (counted : n ≡ begun J) where
  pub begin_lawful : Lawful m (after_begin (book_of m J k rs) i f)
  begin_lawful = let l : begun J < m.requests = omega arith in keeps_begin m (book_of m J k rs) i f L l may.caller may.idle (may.entry l) (may.declared l)

  pub within : i < length rs
  within = omega (arith, may.caller, lines m rs)

  pub begin_shown : (K : List Event) (new : CallerRecord) → K ≡ J ++ Begin n i ∷ [] → IsRecord m new (Some n) f None false → book_of m K k (set rs i new) ≡ after_begin (book_of m J k rs) i f
  begin_shown K new grown h =
      shown m K k rs i new (Some (record { ticket = n; foresight = f; flight = None })) (serving_so m new n f None false h)
      ∙ ap (λ (H : List Event). record { journal = H; kept = k; records = set (servings m rs) i (Some (record { ticket = n; foresight = f; flight = None })) }) grown
      ∙ ap (λ (t : ℕ). record { journal = J ++ Begin t i ∷ []; kept = k; records = set (servings m rs) i (Some (record { ticket = t; foresight = f; flight = None })) }) counted

  pub begins : Begins m (book_of m J k rs) i f (Some n) (after_begin (book_of m J k rs) i f)
  begins = (left, counted, refl)

  apart : (c : ℕ) (s : Serving) → get_or (servings m rs) c None ≡ Some s → s.ticket ≢ n
  apart c s p = let l : s.ticket < begun J = (L.records c s p).is_open.begun in omega (arith, l, counted)

  pub begin_keeps : (new : CallerRecord) → IsRecord m new (Some n) f None false → ((c : ℕ) → KeepsRecord m J (record_at rs c)) → (c : ℕ) → KeepsRecord m (J ++ Begin n i ∷ []) (record_at (set rs i new) c)
  begin_keeps new h each =
      keeps_set m (J ++ Begin n i ∷ []) rs i new within
      (keeps_has m (J ++ Begin n i ∷ []) new n h.ticket h.foresight.kept (h.delayed ∙ sym (is_delayed-append false J (Begin n i) n ∙ cond_same n false (is_delayed J n))))
      (λ c _. keeps_more m J rs c (Begin n i) (apart c) (each c))

  pub begin_count : n + 1 ≡ begun (J ++ Begin n i ∷ [])
  begin_count = omega (arith, counted, begun_more J n i)
