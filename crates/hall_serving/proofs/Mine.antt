-- Which tickets a caller has begun, after each of the waiting calls.
use Rattle.std.proofs.Common.{◌≡◌, ℕ, ◌==◌, List, [], ◌∷◌, ◌++◌, true, false, cond, eqb, Some, None, refl, sym, ◌∙◌, ap, arith}
use Rattle.std.proofs.lemmas.Bool.Decides.{nat_tests}
use Rattle.session_values.specs.declared.op.Op.{Op}
use Rattle.session_values.specs.declared.reply.Reply.{Reply}
use Rattle.session_values.specs.declared.value.Value.{Value}
use Rattle.symbolic_ops.specs.declared.symbol.Symbol.{Symbol}
use Rattle.session_journal.specs.declared.event.Event.TheVariants.{Begin, Done, End}
use Rattle.session_journal.specs.Journal.{begun}
use Rattle.session_journal.specs.Script.{Meaning}
use Rattle.admission_book.specs.Book.{Book}
use Rattle.turn_board.specs.Boards.{caller}
use Rattle.session_hall.specs.declared.hall.Hall.{Hall}
use Rattle.session_hall.specs.declared.caller.Caller.{Caller}
use Rattle.session_hall.specs.declared.stage.Stage.{Stage}
use Rattle.session_hall.specs.declared.stage.Stage.TheVariants.{Idle, Serving, InFlight, Applied, Out}
use Rattle.session_hall.specs.Begun.{begun_by, tickets_by}
use Rattle.session_hall.specs.Callers.{IsCallerOf, StaysCaller, book_in, book_of, entries_of, foresight_of}
use Rattle.session_hall.specs.Calls.{AdmittedAt, AppliedAt, DeclaredAt, EndedAt, GaveBack}
use Rattle.session_hall.specs.Stages.{OnFlight, OnServing}
use Rattle.session_hall.specs.Waits.{AdmittedAfter, AppliedAfter, BegunAfter, DeclaredAfter, EndedAfter, FinishedAfter, FinishedAfterFrom, OnlyBookLost, OnlyLost, OnlyShardLost, OnlyWaited}
use Rattle.session_hall.proofs.Begun.{begun_since, still_begun, tickets-append}
use Rattle.session_hall.proofs.Tried.{both_same}

-- the ticket that a caller begins is its own
one_begun : (c t : ℕ) → cond (c == c) (t ∷ []) [] ≡ t ∷ []
one_begun c t = elim (eqb c c) as (λ b. eqb c c ≡ b → cond b (t ∷ []) [] ≡ t ∷ []) [ true ↦ λ e. refl | false ↦ λ e. absurd (grind (arith, nat_tests)) ] refl

-- what follows of the ticket that is served, and of the operation in flight
on_serving : (st : Stage) (P : ℕ → Type 0) (R : Type 0) → ((t : ℕ) → P t → R) → OnServing st P → R
on_serving (Serving t) P R f x = f t x
on_serving Idle P R f x = absurd x
on_serving Out P R f x = absurd x
on_serving (InFlight t op) P R f x = absurd x
on_serving (Applied t op v) P R f x = absurd x

on_flight : (st : Stage) (P : ℕ → Op → Type 0) (R : Type 0) → ((t : ℕ) (op : Op) → P t op → R) → OnFlight st P → R
on_flight (InFlight t op) P R f x = f t op x
on_flight (Serving t) P R f x = absurd x
on_flight Idle P R f x = absurd x
on_flight Out P R f x = absurd x
on_flight (Applied t op v) P R f x = absurd x

none_more : (xs : List ℕ) → xs ≡ xs ++ []
none_more [] = refl
none_more (x ∷ xs) = ap (λ (l : List ℕ). x ∷ l) (none_more xs)

module _ {S : Type 0} where
  lost_begun : (p via : Caller S) (n : ℕ) → OnlyLost p via n → begun_by via ≡ begun_by p
  lost_begun p via n o = let same : book_of via ≡ book_of p = ap book_in o.note_still in λ i. tickets_by (o.caller_still i) (same i).journal

  gave_begun : (m : Meaning) (p via q : Caller S) (found left : Book) (more : List ℕ) → GaveBack m via q found left → caller q.seat ≡ caller via.seat → begun_by via ≡ begun_by p → tickets_by (caller via.seat) left.journal ≡ tickets_by (caller via.seat) found.journal ++ more → begun_by q ≡ begun_by p ++ more
  gave_begun m p via q found left more g same before e =
      (λ i. tickets_by (same i) (g.noted i).journal) ∙ e
      ∙ ap (λ (l : List ℕ). l ++ more) (begun_since m (book_of via) found (caller via.seat) g.finds.lawful g.finds.since ∙ before)

  gave_still : (m : Meaning) (p via q : Caller S) (found left : Book) → GaveBack m via q found left → caller q.seat ≡ caller via.seat → begun_by via ≡ begun_by p → tickets_by (caller via.seat) left.journal ≡ tickets_by (caller via.seat) found.journal → begun_by q ≡ begun_by p
  gave_still m p via q found left g same before e =
      gave_begun m p via q found left [] g same before (e ∙ none_more (tickets_by (caller via.seat) found.journal)) ∙ sym (none_more (begun_by p))

  module _ (meaning : S → Meaning) (h : Hall S) (p q : Caller S) (k : IsCallerOf meaning h p) (s : StaysCaller meaning h p q) (m : Meaning) where
    from : (via : Caller S) (n : ℕ) → OnlyLost p via n → caller q.seat ≡ caller via.seat
    from via n o = (both_same meaning h p q k s).1 ∙ sym o.caller_still

    -- ---- begin
    pub begin_more : (t : ℕ) → BegunAfter m p q (Some t) → begun_by q ≡ begun_by p ++ t ∷ []
    begin_more t b =
        let via = b.0 in
        let c = caller via.seat in
        let x = b.2 in
        let J = x.found.journal in
        gave_begun m p via q x.found _ (t ∷ []) x.gave (from via b.1.tries b.1.only) (lost_begun p via b.1.tries b.1.only)
        (tickets-append c J (Begin (begun J) c ∷ []) ∙ ap (λ (l : List ℕ). tickets_by c J ++ l) (one_begun c (begun J) ∙ ap (λ (u : ℕ). u ∷ []) (sym x.next)))

    pub begin_none : BegunAfter m p q None → begun_by q ≡ begun_by p
    begin_none b = gave_still m p b.0 q b.2.found b.2.found b.2.gave (from b.0 b.1.tries b.1.only) (lost_begun p b.0 b.1.tries b.1.only) refl

    -- ---- the calls of a ticket that is served
    pub declare_still : (f : List Symbol) → DeclaredAfter m p q f → begun_by q ≡ begun_by p
    declare_still f d = on_serving p.stage (λ t. (via : Caller S) × OnlyBookLost p via × DeclaredAt m via q f t × (entries_of q t ≡ entries_of p t)) (begun_by q ≡ begun_by p) (λ t x.
        gave_still m p x.0 q x.2.found _ x.2.gave (from x.0 x.1.tries x.1.only) (lost_begun p x.0 x.1.tries x.1.only) refl) d

    pub admit_still : (op : Op) → AdmittedAfter m p q op → begun_by q ≡ begun_by p
    admit_still op d = on_serving p.stage (λ t. (via : Caller S) × OnlyWaited m op p via t × AdmittedAt m via q op t × (foresight_of q ≡ foresight_of p) × (entries_of q t ≡ entries_of p t)) (begun_by q ≡ begun_by p) (λ t x.
        gave_still m p x.0 q x.2.found _ x.2.gave ((both_same meaning h p q k s).1 ∙ sym x.1.only.caller_still) x.1.only.begun_still refl) d

    pub apply_still : (shards turns : ℕ) (v : Value) → AppliedAfter m p q shards turns v → begun_by q ≡ begun_by p
    apply_still shards turns v d = on_flight p.stage (λ t op. (via : Caller S) × OnlyShardLost m shards p via × AppliedAt m via q turns v t op × (foresight_of q ≡ foresight_of p) × (book_of q ≡ book_of p)) (begun_by q ≡ begun_by p) (λ t op x i.
        tickets_by ((both_same meaning h p q k s).1 i) (x.4 i).journal) d

    pub finish_still : (next : List Symbol) → FinishedAfter m p q next → begun_by q ≡ begun_by p
    finish_still next d = go p.stage d
      where
        go : (st : Stage) → FinishedAfterFrom m p q next st → begun_by q ≡ begun_by p
        go (Applied t op v) x = gave_still m p x.0 q x.2.found _ x.2.gave (from x.0 x.1.tries x.1.only) (lost_begun p x.0 x.1.tries x.1.only) (still_begun (caller x.0.seat) x.2.found.journal (Done t op v) refl)
        go Idle x = absurd x
        go (Serving t) x = absurd x
        go (InFlight t op) x = absurd x
        go Out x = absurd x

    pub end_still : (r : Reply) → EndedAfter m p q r → begun_by q ≡ begun_by p
    end_still r d = on_serving p.stage (λ t. (via : Caller S) × OnlyBookLost p via × EndedAt m via q r t × (foresight_of q ≡ []) × (entries_of q t ≡ entries_of p t)) (begun_by q ≡ begun_by p) (λ t x.
        gave_still m p x.0 q x.2.found _ x.2.gave (from x.0 x.1.tries x.1.only) (lost_begun p x.0 x.1.tries x.1.only) (still_begun (caller x.0.seat) x.2.found.journal (End t r) refl)) d
