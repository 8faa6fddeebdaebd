-- The fields of a book in which a ticket narrows.
use Rattle.std.proofs.Common.{◌≡◌, ℕ, List, Option, Some, sym, ◌∙◌, ap, subst}
use Rattle.std.proofs.Math.ListN.{set}
use Rattle.session_values.specs.declared.reply.Reply.{Reply}
use Rattle.symbolic_ops.specs.declared.symbol.Symbol.{Symbol}
use Rattle.symbolic_ops.specs.Matching.{Covered}
use Rattle.session_journal.specs.declared.event.Event.{Event}
use Rattle.session_journal.specs.Script.{Meaning}
use Rattle.admission_book.specs.Book.{Serving, record_of, after_narrow}
use Rattle.admission_book.specs.Lawful.{Lawful}
use Rattle.admission_book.specs.declared.caller_record.CallerRecord.{CallerRecord}
use Rattle.admission_book.specs.CallerRecord.{IsRecord, record_at}
use Rattle.admission_book.specs.Foresights.{symbols_of}
use Rattle.admission_book.specs.Methods.{MayNarrow, Narrowed}
use Rattle.admission_book.specs.Kept.{book_of, KeepsRecord}
use Rattle.admission_book.proofs.Keep.{keeps_narrow}
use Rattle.admission_book.proofs.Shown.{served, serving_is, serving_so, shown, keeps_has, keeps_set, one, Place, served_at}

module _ (m : Meaning) (J : List Event) (k : List (Option Reply)) (rs : List CallerRecord) (t : ℕ) (f : List Symbol) (i : ℕ) (old : CallerRecord)
    (L : Lawful m (book_of m J k rs)) (may : MayNarrow m (book_of m J k rs) t f) (p : Place rs i t old) where
  at : record_of (book_of m J k rs) i ≡ Some (served m t old)
  at = served_at m J k rs i t old p

  same : may.serving ≡ served m t old
  same = (one m (book_of m J k rs) L may.caller i may.serving (served m t old) may.is at may.ticket).1

  pub narrow_covered : Covered f (symbols_of m old.foresight)
  narrow_covered = let P : Serving → Type 0 = λ s. Covered f s.foresight in subst P same may.covered

  pub narrow_lawful : Lawful m (after_narrow (book_of m J k rs) i (served m t old) f)
  narrow_lawful = keeps_narrow m (book_of m J k rs) i (served m t old) f L at (sym (ap (λ (s : Serving). s.flight) same) ∙ may.idle) narrow_covered may.covers

  pub narrow_shown : (new : CallerRecord) → IsRecord m new old.ticket f old.flight old.delayed → book_of m J k (set rs i new) ≡ after_narrow (book_of m J k rs) i (served m t old) f
  narrow_shown new h = shown m J k rs i new (Some (record { ticket = t; foresight = f; flight = old.flight })) (serving_so m new t f old.flight old.delayed (record { ticket = h.ticket ∙ p.has; foresight = h.foresight; flight = h.flight; delayed = h.delayed }))

  pub narrowed : Narrowed (book_of m J k rs) t f (after_narrow (book_of m J k rs) i (served m t old) f)
  narrowed c s q e = let h : (i ≡ c) × (served m t old ≡ s) = one m (book_of m J k rs) L i c (served m t old) s at q (sym e) in λ j. after_narrow (book_of m J k rs) (h.0 j) (h.1 j) f

  pub narrow_keeps : (new : CallerRecord) → IsRecord m new old.ticket f old.flight old.delayed → ((c : ℕ) → KeepsRecord m J (record_at rs c)) → (c : ℕ) → KeepsRecord m J (record_at (set rs i new) c)
  narrow_keeps new h each =
      let P : CallerRecord → Type 0 = λ r. KeepsRecord m J r in
      let k_old : KeepsRecord m J old = subst P p.is (each i) in
      keeps_set m J rs i new p.within (keeps_has m J new t (h.ticket ∙ p.has) h.foresight.kept (h.delayed ∙ k_old.noted (served m t old) (serving_is m old t p.has))) (λ c _. each c)
