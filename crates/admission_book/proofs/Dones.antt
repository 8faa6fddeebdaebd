-- The fields of a book in which an operation is done.
use Rattle.std.proofs.Common.{◌≡◌, ℕ, List, [], ◌∷◌, ◌++◌, Option, Some, None, false, refl, sym, ◌∙◌, ap, subst}
use Rattle.std.specs.Option.{IsSome}
use Rattle.std.proofs.Math.ListN.{set}
use Rattle.std.proofs.lemmas.Option.{same_Some}
use Rattle.session_values.specs.declared.op.Op.{Op}
use Rattle.session_values.specs.declared.value.Value.{Value}
use Rattle.session_values.specs.declared.reply.Reply.{Reply}
use Rattle.session_values.specs.Tables.{reply}
use Rattle.session_values.specs.Dialogue.{rest, replies}
use Rattle.symbolic_ops.specs.declared.symbol.Symbol.{Symbol}
use Rattle.symbolic_ops.specs.Matching.{Covered}
use Rattle.session_journal.specs.declared.event.Event.{Event}
use Rattle.session_journal.specs.declared.event.Event.TheVariants.{Done}
use Rattle.session_journal.specs.Journal.{begun, entries, after}
use Rattle.session_journal.specs.Script.{Meaning, IsForesight}
use Rattle.admission_book.specs.Book.{Serving, record_of, after_done}
use Rattle.session_journal.specs.EventsInTurn.{is_delayed}
use Rattle.admission_book.specs.Lawful.{Lawful}
use Rattle.admission_book.specs.declared.caller_record.CallerRecord.{CallerRecord}
use Rattle.admission_book.specs.CallerRecord.{IsRecord, servings, record_at}
use Rattle.admission_book.specs.Foresights.{symbols_of}
use Rattle.admission_book.specs.Methods.{MayDo, DidIt}
use Rattle.admission_book.specs.Kept.{book_of, KeepsRecord}
use Rattle.session_journal.proofs.Events.{begun_stays}
use Rattle.admission_book.proofs.Keep.{keeps_done}
use Rattle.session_journal.proofs.EventCounts.{is_delayed-append}
use Rattle.admission_book.proofs.Shown.{served, serving_so, shown, keeps_has, keeps_more, keeps_set, cond_same, one, others, Place, served_at}

module _ (m : Meaning) (J : List Event) (k : List (Option Reply)) (rs : List CallerRecord) (t : ℕ) (r : Value) (f : List Symbol) (i : ℕ) (old : CallerRecord)
    (L : Lawful m (book_of m J k rs)) (may : MayDo m (book_of m J k rs) t r f) (p : Place rs i t old) where
  at : record_of (book_of m J k rs) i ≡ Some (served m t old)
  at = served_at m J k rs i t old p

  same : may.serving ≡ served m t old
  same = (one m (book_of m J k rs) L may.caller i may.serving (served m t old) may.is at may.ticket).1

  flight : old.flight ≡ Some may.op
  flight = sym (ap (λ (s : Serving). s.flight) same) ∙ may.flight

  pub flies : IsSome old.flight
  flies = let P : Option Op → Type 0 = λ o. IsSome o in subst P (sym flight) refl

  pub done_covered : Covered f (symbols_of m old.foresight)
  done_covered = let P : Serving → Type 0 = λ s. Covered f s.foresight in subst P same may.covered

  module _ (op : Op) (is : old.flight ≡ Some op) where
    op_is : may.op ≡ op
    op_is = same_Some may.op op (sym flight ∙ is)

    pub done_lawful : Lawful m (after_done (book_of m J k rs) i (served m t old) op r f)
    done_lawful =
        let T : Op → Type 0 = λ o. Covered f (m.told t (replies (entries J t ++ record { op = o; reply = r } ∷ []))) in
        let Q : Op → Type 0 = λ o. IsForesight (rest (m.next t) (replies (entries J t ++ record { op = o; reply = r } ∷ []))) f in
        keeps_done m (book_of m J k rs) i (served m t old) op r f L at is (may.reply_is ∙ ap (reply (after m.opening J)) op_is) done_covered (subst Q op_is may.covers) (subst T op_is may.declared)

    pub done_shown : (K : List Event) (new : CallerRecord) → K ≡ J ++ Done t op r ∷ [] → IsRecord m new old.ticket f None false → book_of m K k (set rs i new) ≡ after_done (book_of m J k rs) i (served m t old) op r f
    done_shown K new grown h =
        shown m K k rs i new (Some (record { ticket = t; foresight = f; flight = None })) (serving_so m new t f None false (record { ticket = h.ticket ∙ p.has; foresight = h.foresight; flight = h.flight; delayed = h.delayed }))
        ∙ ap (λ (H : List Event). record { journal = H; kept = k; records = set (servings m rs) i (Some (record { ticket = t; foresight = f; flight = None })) }) grown

    pub did : DidIt (book_of m J k rs) t r f (after_done (book_of m J k rs) i (served m t old) op r f)
    did c s o q e fl =
        let h : (i ≡ c) × (served m t old ≡ s) = one m (book_of m J k rs) L i c (served m t old) s at q (sym e) in
        let same_op : op ≡ o = same_Some op o (sym is ∙ ap (λ (z : Serving). z.flight) h.1 ∙ fl) in
        λ j. after_done (book_of m J k rs) (h.0 j) (h.1 j) (same_op j) r f

    pub done_keeps : (new : CallerRecord) → IsRecord m new old.ticket f None false → ((c : ℕ) → KeepsRecord m J (record_at rs c)) → (c : ℕ) → KeepsRecord m (J ++ Done t op r ∷ []) (record_at (set rs i new) c)
    done_keeps new h each =
        keeps_set m (J ++ Done t op r ∷ []) rs i new p.within
        (keeps_has m (J ++ Done t op r ∷ []) new t (h.ticket ∙ p.has) h.foresight.kept (h.delayed ∙ sym (is_delayed-append false J (Done t op r) t ∙ cond_same t false (is_delayed J t))))
        (λ c apart. keeps_more m J rs c (Done t op r) (others m (book_of m J k rs) L i c (served m t old) at apart) (each c))

    pub done_count : (n : ℕ) → n ≡ begun J → n ≡ begun (J ++ Done t op r ∷ [])
    done_count n e = e ∙ sym (begun_stays J (Done t op r) refl)
