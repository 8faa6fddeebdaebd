-- The fields of a book in which a ticket ends.
use Rattle.std.proofs.Common.{◌≡◌, ℕ, ◌<◌, List, [], ◌∷◌, ◌++◌, Option, Some, None, length, refl, sym, ◌∙◌, ap, subst, arith}
use Rattle.std.proofs.Math.ListN.{set}
use Rattle.session_values.specs.declared.reply.Reply.{Reply}
use Rattle.session_journal.specs.declared.event.Event.{Event}
use Rattle.session_journal.specs.declared.event.Event.TheVariants.{End}
use Rattle.session_journal.specs.Journal.{begun}
use Rattle.session_journal.specs.Script.{Meaning}
use Rattle.admission_book.specs.Book.{Serving, record_of, after_end}
use Rattle.admission_book.specs.Lawful.{Lawful}
use Rattle.admission_book.specs.declared.caller_record.CallerRecord.{CallerRecord}
use Rattle.admission_book.specs.CallerRecord.{serving_of, servings, record_at, after_ticket}
use Rattle.admission_book.specs.Methods.{MayEnd, HasEnded}
use Rattle.admission_book.specs.Kept.{book_of, KeepsRecord}
use Rattle.session_journal.proofs.Events.{begun_stays}
use Rattle.admission_book.proofs.Keep.{keeps_end}
use Rattle.session_journal.proofs.EventCounts.{few_begun}
use Rattle.admission_book.proofs.Shown.{served, shown, keeps_none, keeps_more, keeps_set, one, others, Place, served_at}

module _ (m : Meaning) (J : List Event) (k : List (Option Reply)) (rs : List CallerRecord) (t : ℕ) (r : Reply) (i : ℕ) (old : CallerRecord)
    (L : Lawful m (book_of m J k rs)) (may : MayEnd m (book_of m J k rs) t r) (p : Place rs i t old) (each_kept : length k ≡ m.requests) where
  at : record_of (book_of m J k rs) i ≡ Some (served m t old)
  at = served_at m J k rs i t old p

  same : may.serving ≡ served m t old
  same = (one m (book_of m J k rs) L may.caller i may.serving (served m t old) may.is at may.ticket).1

  pub end_within : t < length k
  end_within =
      let l : t < begun J = (L.records i (served m t old) at).is_open.begun in
      omega (arith, l, each_kept, few_begun m (length (servings m rs)) J L.turns)

  pub end_lawful : Lawful m (after_end (book_of m J k rs) i (served m t old) r)
  end_lawful = keeps_end m (book_of m J k rs) i (served m t old) r L at (sym (ap (λ (s : Serving). s.flight) same) ∙ may.idle) may.answers end_within

  pub end_shown : (K : List Event) (k2 : List (Option Reply)) (new : CallerRecord) → K ≡ J ++ End t r ∷ [] → k2 ≡ set k t (Some r) → new ≡ after_ticket old → book_of m K k2 (set rs i new) ≡ after_end (book_of m J k rs) i (served m t old) r
  end_shown K k2 new grown kept e =
      shown m K k2 rs i new None (ap (λ (x : CallerRecord). serving_of m x) e)
      ∙ ap (λ (H : List Event). record { journal = H; kept = k2; records = set (servings m rs) i None }) grown
      ∙ ap (λ (l : List (Option Reply)). record { journal = J ++ End t r ∷ []; kept = l; records = set (servings m rs) i None }) kept

  pub ended_so : HasEnded (book_of m J k rs) t r (after_end (book_of m J k rs) i (served m t old) r)
  ended_so c s q e = let h : (i ≡ c) × (served m t old ≡ s) = one m (book_of m J k rs) L i c (served m t old) s at q (sym e) in λ j. after_end (book_of m J k rs) (h.0 j) (h.1 j) r

  pub end_keeps : (new : CallerRecord) → new ≡ after_ticket old → ((c : ℕ) → KeepsRecord m J (record_at rs c)) → (c : ℕ) → KeepsRecord m (J ++ End t r ∷ []) (record_at (set rs i new) c)
  end_keeps new e each =
      let P : CallerRecord → Type 0 = λ x. KeepsRecord m J x in
      let Q : CallerRecord → Type 0 = λ x. KeepsRecord m (J ++ End t r ∷ []) x in
      let k_old : KeepsRecord m J old = subst P p.is (each i) in
      keeps_set m (J ++ End t r ∷ []) rs i new p.within
      (subst Q (sym e) (keeps_none m (J ++ End t r ∷ []) (after_ticket old) refl k_old.foresight))
      (λ c apart. keeps_more m J rs c (End t r) (others m (book_of m J k rs) L i c (served m t old) at apart) (each c))

  pub end_count : (n : ℕ) → n ≡ begun J → n ≡ begun (J ++ End t r ∷ [])
  end_count n e = e ∙ sym (begun_stays J (End t r) refl)
