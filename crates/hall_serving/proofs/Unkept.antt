-- What a holding and its ticket are after the calls of its caller, while the book isn't in hand.
use Rattle.std.proofs.Common.{◌≡◌, ◌∙◌, ℕ, List, [], ◌∷◌, ◌++◌, Option, Some, None, refl, sym, ap, subst}
use Rattle.session_values.specs.declared.op.Op.{Op}
use Rattle.session_values.specs.declared.value.Value.{Value}
use Rattle.session_values.specs.Dialogue.{Entry}
use Rattle.symbolic_ops.specs.declared.symbol.Symbol.{Symbol}
use Rattle.session_journal.specs.Journal.{entries}
use Rattle.session_journal.specs.Script.{Meaning}
use Rattle.admission_book.specs.Book.{Book, record_of}
use Rattle.admission_book.specs.Methods.{BookView}
use Rattle.turn_board.specs.Boards.{caller}
use Rattle.session_hall.specs.declared.hall.Hall.{Hall}
use Rattle.session_hall.specs.declared.holding.Holding.{Holding}
use Rattle.session_hall.specs.declared.stage.Stage.{Stage}
use Rattle.session_hall.specs.declared.stage.Stage.TheVariants.{Idle, Serving, InFlight, Applied, Out}
use Rattle.session_hall.specs.Begun.{begun_by, tickets_by}
use Rattle.session_hall.specs.Callers.{IsCallerOf, StaysCaller, book_of, entries_of, foresight_of}
use Rattle.session_hall.specs.Holdings.{IsHoldingOf, IsHoldingWith, IsKept, begun_at, book_at, entries_at, foresight_at, present_book}
use Rattle.session_hall.specs.Names.{hall_name, id_of, script_of}
use Rattle.session_hall.specs.Stages.{OnFlight, OnServing, foresight_in}
use Rattle.session_hall.specs.Waits.{AdmittedAfter, AppliedAfter, DeclaredAfter, FinishedAfter, FinishedAfterFrom}
use Rattle.hall_serving.specs.KeptCalls.{CalledAt, CalledFlight, FliesAt, GivesBack, NarrowedAt}
use Rattle.hall_serving.proofs.Mine.{admit_still, apply_still, declare_still, finish_still}

-- what follows of the ticket that is served
each_ticket : (st : Stage) (P Q : ℕ → Type 0) → ((t : ℕ) → P t → Q t) → OnServing st P → OnServing st Q
each_ticket (Serving t) P Q f x = f t x
each_ticket Idle P Q f x = absurd x
each_ticket Out P Q f x = absurd x
each_ticket (InFlight t op) P Q f x = absurd x
each_ticket (Applied t op v) P Q f x = absurd x

each_flight : (st : Stage) (P Q : ℕ → Op → Type 0) → ((t : ℕ) (op : Op) → P t op → Q t op) → OnFlight st P → OnFlight st Q
each_flight (InFlight t op) P Q f x = f t op x
each_flight Idle P Q f x = absurd x
each_flight Out P Q f x = absurd x
each_flight (Serving t) P Q f x = absurd x
each_flight (Applied t op v) P Q f x = absurd x

-- the operation is entered, and the list is the foresight, whether the book is in hand or not
module _ {S : Type 0} (p q : Holding S) where
  pub record EnteredAt (next : List Symbol) (t : ℕ) (op : Op) (v : Value) : Type 0 where
    pub stage_is : q.caller.stage ≡ Serving t
    pub foresight_is : foresight_at q ≡ next
    pub begun_still : begun_at q ≡ begun_at p
    pub entries_more : entries_at q t ≡ entries_at p t ++ record { op = op; reply = v } ∷ []

  abbrev pub EnteredBy : List Symbol → Stage → Type 0
  EnteredBy next (Applied t op v) = EnteredAt next t op v
  EnteredBy next _ = ⊥

module _ {S : Type 0} where
  -- ---- whether the book is in hand
  pub not_kept : (b : Option (BookView S)) → (IsKept b → ⊥) → b ≡ None
  not_kept None f = refl
  not_kept (Some v) f = absurd (f tt)

  pub unkept : (meaning : S → Meaning) (h : Hall S) (x : Holding S) → x.book ≡ None → IsHoldingOf meaning h x → IsCallerOf meaning h x.caller
  unkept meaning h x e k =
      let P : Option (BookView S) → Type 0 = λ b. IsHoldingWith meaning (id_of (hall_name h)) (script_of h) x.caller b in
      subst P e k

  pub holding_of : (meaning : S → Meaning) (h : Hall S) (x : Holding S) → x.book ≡ None → IsCallerOf meaning h x.caller → IsHoldingOf meaning h x
  holding_of meaning h x e k =
      let P : Option (BookView S) → Type 0 = λ b. IsHoldingWith meaning (id_of (hall_name h)) (script_of h) x.caller b in
      subst P (sym e) k

  -- the same of a holding and its caller, while the book isn't in hand
  module _ (x : Holding S) (none : x.book ≡ None) where
    present_is : present_book x ≡ book_of x.caller
    present_is = ap (λ (b : Option (BookView S)). book_at b (book_of x.caller)) none

    foresight_is : foresight_at x ≡ foresight_of x.caller
    foresight_is = ap (λ (b : Book). foresight_in (record_of b x.caller.number)) present_is

    pub begun_is : begun_at x ≡ begun_by x.caller
    begun_is = ap (λ (b : Book). tickets_by (caller x.caller.seat) b.journal) present_is

    entries_is : (t : ℕ) → entries_at x t ≡ entries_of x.caller t
    entries_is t = ap (λ (b : Book). entries b.journal t) present_is

  -- ---- the calls of a caller, while the book isn't in hand
  module _ (meaning : S → Meaning) (h : Hall S) (m : Meaning) (p q : Holding S) (none : p.book ≡ None) (out : q.book ≡ None) (k : IsCallerOf meaning h p.caller) (s : StaysCaller meaning h p.caller q.caller) where
    begun_apart : begun_by q.caller ≡ begun_by p.caller → begun_at q ≡ begun_at p
    begun_apart e = begun_is q out ∙ e ∙ sym (begun_is p none)

    pub entered_apart : (next : List Symbol) → FinishedAfter m p.caller q.caller next → EnteredBy p q next p.caller.stage
    entered_apart next d = go p.caller.stage d
      where
        go : (st : Stage) → FinishedAfterFrom m p.caller q.caller next st → EnteredBy p q next st
        go (Applied t op v) x = record {
          stage_is = x.2.stage_is;
          foresight_is = foresight_is q out ∙ x.2.foresight_is;
          begun_still = begun_apart (finish_still meaning h p.caller q.caller k s m next d);
          entries_more = entries_is q out t ∙ x.3 ∙ ap (λ (l : List Entry). l ++ record { op = op; reply = v } ∷ []) (sym (entries_is p none t));
        }
        go Idle x = absurd x
        go Out x = absurd x
        go (Serving t) x = absurd x
        go (InFlight t op) x = absurd x

    pub narrowed_apart : (f : List Symbol) → DeclaredAfter m p.caller q.caller f → OnServing p.caller.stage (NarrowedAt p q f)
    narrowed_apart f d = each_ticket p.caller.stage _ (NarrowedAt p q f) (λ t x. record {
      stage_is = x.2.stage_is;
      foresight_is = foresight_is q out ∙ x.2.foresight_is;
      begun_still = begun_apart (declare_still meaning h p.caller q.caller k s m f d);
      entries_still = entries_is q out t ∙ x.3 ∙ sym (entries_is p none t);
    }) d

    pub called_apart : (shards turns : ℕ) (v : Value) → AppliedAfter m p.caller q.caller shards turns v → CalledFlight p q v
    called_apart shards turns v b = each_flight p.caller.stage _ (λ t op. CalledAt p q op v t) (λ t op y. record {
      stage_is = y.2.stage_is;
      foresight_still = foresight_is q out ∙ y.3 ∙ sym (foresight_is p none);
      begun_still = begun_apart (apply_still meaning h p.caller q.caller k s m shards turns v b);
      entries_still = entries_is q out t ∙ ap (λ (w : Book). entries w.journal t) y.4 ∙ sym (entries_is p none t);
    }) b

    -- an operation is admitted after the book of the holding `o` was given back
    pub flies_apart : (o : Holding S) → GivesBack o p → (op : Op) → AdmittedAfter m p.caller q.caller op → OnServing o.caller.stage (FliesAt o q op)
    flies_apart o g op a =
        let Q : Stage → Type 0 = λ st. OnServing st (FliesAt o q op) in
        subst Q g.stage_still (each_ticket p.caller.stage _ (FliesAt o q op) (λ t x. record {
          stage_is = x.2.stage_is;
          foresight_still = foresight_is q out ∙ x.3 ∙ sym (foresight_is p none) ∙ g.foresight_still;
          begun_still = begun_apart (admit_still meaning h p.caller q.caller k s m op a) ∙ g.begun_still;
          entries_still = entries_is q out t ∙ x.4 ∙ sym (entries_is p none t) ∙ ap (λ (b : Book). entries b.journal t) g.book_still;
        }) a)
