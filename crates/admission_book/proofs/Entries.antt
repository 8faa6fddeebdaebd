-- The fields of a book in which an operation is admitted and done in one.
use Rattle.std.proofs.Common.{◌≡◌, ℕ, List, [], ◌∷◌, ◌++◌, Option, Some, None, false, refl, sym, ◌∙◌, ap, subst, arith}
use Rattle.std.proofs.Math.ListN.{set}
use Rattle.std.proofs.lemmas.List.{get_or-set_same, length-map, set-set}
use Rattle.session_values.specs.declared.op.Op.{Op}
use Rattle.session_values.specs.declared.value.Value.{Value}
use Rattle.session_values.specs.declared.reply.Reply.{Reply}
use Rattle.session_values.specs.Tables.{reply}
use Rattle.session_values.specs.Dialogue.{rest, replies}
use Rattle.symbolic_ops.specs.declared.symbol.Symbol.{Symbol}
use Rattle.symbolic_ops.specs.Matching.{Covered}
use Rattle.session_journal.specs.declared.event.Event.{Event}
use Rattle.session_journal.specs.declared.event.Event.TheVariants.{Done}
use Rattle.session_journal.specs.Journal.{begun, entries, after}
use Rattle.session_journal.specs.Script.{Meaning, IsForesight}
use Rattle.admission_book.specs.Book.{Book, Serving, record_of, after_admit, after_done, with_event}
use Rattle.session_journal.specs.EventsInTurn.{is_delayed}
use Rattle.admission_book.specs.Lawful.{Lawful}
use Rattle.admission_book.specs.declared.caller_record.CallerRecord.{CallerRecord}
use Rattle.admission_book.specs.CallerRecord.{IsRecord, serving_of, servings, record_at}
use Rattle.admission_book.specs.Foresights.{symbols_of}
use Rattle.admission_book.specs.Methods.{Entered, MayEnter}
use Rattle.admission_book.specs.Kept.{book_of, KeepsRecord}
use Rattle.session_journal.proofs.Events.{begun_stays}
use Rattle.admission_book.proofs.Keep.{keeps_admit, keeps_done}
use Rattle.session_journal.proofs.EventCounts.{is_delayed-append}
use Rattle.admission_book.proofs.Shown.{served, serving_so, shown, keeps_has, keeps_more, keeps_set, cond_same, one, others, Place, served_at}

module _ (m : Meaning) (J : List Event) (k : List (Option Reply)) (rs : List CallerRecord) (t : ℕ) (op : Op) (r : Value) (f : List Symbol) (i : ℕ) (old : CallerRecord)
    (L : Lawful m (book_of m J k rs)) (may : MayEnter m (book_of m J k rs) t op r f) (p : Place rs i t old) where
  abbrev b : Book
  b = book_of m J k rs

  abbrev s : Serving
  s = served m t old

  abbrev flying : Serving
  flying = record { ticket = t; foresight = symbols_of m old.foresight; flight = Some op }

  at : record_of b i ≡ Some s
  at = served_at m J k rs i t old p

  same : may.serving ≡ s
  same = (one m b L may.caller i may.serving s may.is at may.ticket).1

  pub enter_covered : Covered f (symbols_of m old.foresight)
  enter_covered = let P : Serving → Type 0 = λ z. Covered f z.foresight in subst P same may.covered

  abbrev admitted : Book
  admitted = after_admit b i s op

  at_admitted : record_of admitted i ≡ Some flying
  at_admitted = get_or-set_same (servings m rs) i (Some flying) None (omega (arith, p.within, length-map rs (λ (z : CallerRecord). serving_of m z)))

  -- the record is set twice, so once
  twice : after_done admitted i flying op r f ≡ after_done b i s op r f
  twice = ap (λ (us : List (Option Serving)). record { journal = J ++ Done t op r ∷ []; kept = k; records = us }) (set-set (servings m rs) i (Some flying) (Some (record { ticket = t; foresight = f; flight = None })))

  pub enter_lawful : Lawful m (after_done b i s op r f)
  enter_lawful =
      let A : Lawful m admitted = keeps_admit m b i s op L at may.calls may.free in
      let P : Book → Type 0 = λ d. Lawful m d in
      subst P twice (keeps_done m admitted i flying op r f A at_admitted refl may.reply_is enter_covered may.covers may.declared)

  pub enter_shown : (K : List Event) (new : CallerRecord) → K ≡ J ++ Done t op r ∷ [] → IsRecord m new old.ticket f None false → book_of m K k (set rs i new) ≡ after_done b i s op r f
  enter_shown K new grown h =
      shown m K k rs i new (Some (record { ticket = t; foresight = f; flight = None })) (serving_so m new t f None false (record { ticket = h.ticket ∙ p.has; foresight = h.foresight; flight = h.flight; delayed = h.delayed }))
      ∙ ap (λ (H : List Event). record { journal = H; kept = k; records = set (servings m rs) i (Some (record { ticket = t; foresight = f; flight = None })) }) grown

  pub entered : Entered b t op r f (after_done b i s op r f)
  entered c z q e =
      let h : (i ≡ c) × (s ≡ z) = one m b L i c s z at q (sym e) in
      λ j. after_done b (h.0 j) (h.1 j) op r f

  pub enter_keeps : (new : CallerRecord) → IsRecord m new old.ticket f None false → ((c : ℕ) → KeepsRecord m J (record_at rs c)) → (c : ℕ) → KeepsRecord m (J ++ Done t op r ∷ []) (record_at (set rs i new) c)
  enter_keeps new h each =
      keeps_set m (J ++ Done t op r ∷ []) rs i new p.within
      (keeps_has m (J ++ Done t op r ∷ []) new t (h.ticket ∙ p.has) h.foresight.kept (h.delayed ∙ sym (is_delayed-append false J (Done t op r) t ∙ cond_same t false (is_delayed J t))))
      (λ c apart. keeps_more m J rs c (Done t op r) (others m b L i c s at apart) (each c))

  pub enter_count : (n : ℕ) → n ≡ begun J → n ≡ begun (J ++ Done t op r ∷ [])
  enter_count n e = e ∙ sym (begun_stays J (Done t op r) refl)
