-- An operation that is tried again, and one that is put in flight and done apart.
use Rattle.std.proofs.Common.{◌≡◌, ◌∙◌, ℕ, List, [], ◌∷◌, ◌++◌, Option, Some, None, refl, sym, ap, subst}
use Rattle.session_values.specs.declared.op.Op.{Op}
use Rattle.session_values.specs.declared.value.Value.{Value}
use Rattle.session_values.specs.Dialogue.{Entry, replies}
use Rattle.symbolic_ops.specs.declared.symbol.Symbol.{Symbol}
use Rattle.symbolic_ops.specs.Matching.{Matches}
use Rattle.session_journal.specs.Journal.{entries}
use Rattle.session_journal.specs.Script.{Meaning}
use Rattle.admission_book.specs.Book.{Book, IsFree, record_of}
use Rattle.admission_book.specs.declared.admission.Admission.TheVariants as admission
use Rattle.admission_book.specs.Methods.{BookView}
use Rattle.turn_board.specs.Boards.{caller}
use Rattle.session_hall.specs.declared.hall.Hall.{Hall}
use Rattle.session_hall.specs.declared.holding.Holding.{Holding}
use Rattle.session_hall.specs.declared.stage.Stage.{Stage}
use Rattle.session_hall.specs.declared.stage.Stage.TheVariants.{Idle, Serving, InFlight, Applied, Out}
use Rattle.session_hall.specs.Begun.{tickets_by}
use Rattle.session_hall.specs.Callers.{book_of}
use Rattle.session_hall.specs.Calls.{MayCall}
use Rattle.session_hall.specs.HoldingCalls.{AdmitsKept, ByPresent, IsFreeKept, IsQuiet, LaunchedKept, OfTicket, WorkedKept}
use Rattle.session_hall.specs.Holdings.{IsHoldingOf, IsHoldingWith, IsKept, StaysHolding, begun_at, book_at, entries_at, foresight_at, present_book}
use Rattle.session_hall.specs.Names.{hall_name, id_of, script_of}
use Rattle.session_hall.specs.Stages.{IsInFlight, OnFlight, OnServing, foresight_in}
use Rattle.hall_serving.specs.KeptCalls.{CalledAt, CalledFlight, CalledFrom, FliesAt, GivesBack, HasCalled, SameTicket}

of_each : (st : Stage) (P : ℕ → Type 0) → ((t : ℕ) → P t) → OfTicket st P
of_each (Serving t) P f = f t
of_each Idle P f = tt
of_each Out P f = tt
of_each (InFlight t op) P f = tt
of_each (Applied t op v) P f = tt

module _ {S : Type 0} where
  pub same_itself : (p : Holding S) → SameTicket p p
  same_itself p = record {
    stage_still = refl;
    foresight_still = refl;
    begun_still = refl;
    entries_still = of_each p.caller.stage (λ t. entries_at p t ≡ entries_at p t) (λ t. refl);
  }

  pub same_back : (p q : Holding S) → GivesBack p q → SameTicket p q
  same_back p q g = record {
    stage_still = g.stage_still;
    foresight_still = g.foresight_still;
    begun_still = g.begun_still;
    entries_still = of_each p.caller.stage (λ t. entries_at q t ≡ entries_at p t) (λ t. ap (λ (b : Book). entries b.journal t) g.book_still);
  }

  pub same_more : (p q r : Holding S) → SameTicket p q → SameTicket q r → SameTicket p r
  same_more p q r a b =
      let Q : Stage → Type 0 = λ st. OfTicket st (λ t. entries_at r t ≡ entries_at q t) in
      record {
        stage_still = b.stage_still ∙ a.stage_still;
        foresight_still = b.foresight_still ∙ a.foresight_still;
        begun_still = b.begun_still ∙ a.begun_still;
        entries_still = go p.caller.stage a.entries_still (subst Q a.stage_still b.entries_still);
      }
    where
      go : (st : Stage) → OfTicket st (λ t. entries_at q t ≡ entries_at p t) → OfTicket st (λ t. entries_at r t ≡ entries_at q t) → OfTicket st (λ t. entries_at r t ≡ entries_at p t)
      go (Serving t) x y = y ∙ x
      go Idle x y = tt
      go Out x y = tt
      go (InFlight t op) x y = tt
      go (Applied t op v) x y = tt

  pub quiet_again : (p q : Holding S) (P : ℕ → Type 0) → SameTicket p q → OnServing p.caller.stage P → IsQuiet q.caller.stage
  quiet_again p q P s may =
      let Q : Stage → Type 0 = λ st. IsQuiet st in
      subst Q (sym s.stage_still) (go p.caller.stage may)
    where
      go : (st : Stage) → OnServing st P → IsQuiet st
      go (Serving t) x = tt
      go Idle x = absurd x
      go Out x = absurd x
      go (InFlight t op) x = absurd x
      go (Applied t op v) x = absurd x

  pub may_again : (m : Meaning) (p q : Holding S) (op : Op) → SameTicket p q → ByPresent m p (MayCall (foresight_at p) op) → ByPresent m q (MayCall (foresight_at q) op)
  may_again m p q op s may =
      let R : Stage → Type 0 = λ st. OnServing st (λ t. MayCall (foresight_at q) op m (present_book q) t) in
      subst R (sym s.stage_still) (go p.caller.stage s.entries_still may)
    where
      go : (st : Stage) → OfTicket st (λ t. entries_at q t ≡ entries_at p t) → OnServing st (λ t. MayCall (foresight_at p) op m (present_book p) t) → OnServing st (λ t. MayCall (foresight_at q) op m (present_book q) t)
      go (Serving t) x y = (ap (λ (es : List Entry). m.next t (replies es)) x ∙ y.0, subst (λ (f : List Symbol). Matches f op) (sym s.foresight_still) y.1)
      go Idle x y = absurd y
      go Out x y = absurd y
      go (InFlight t o) x y = absurd y
      go (Applied t o v) x y = absurd y

  pub called_again : (p q r : Holding S) (op : Op) (v : Value) → SameTicket p q → OnServing q.caller.stage (CalledAt q r op v) → OnServing p.caller.stage (CalledAt p r op v)
  called_again p q r op v s c =
      let R : Stage → Type 0 = λ st. OnServing st (CalledAt q r op v) in
      go p.caller.stage s.entries_still (subst R s.stage_still c)
    where
      go : (st : Stage) → OfTicket st (λ t. entries_at q t ≡ entries_at p t) → OnServing st (CalledAt q r op v) → OnServing st (CalledAt p r op v)
      go (Serving t) x y = record {
        stage_is = y.stage_is;
        foresight_still = y.foresight_still ∙ s.foresight_still;
        begun_still = y.begun_still ∙ s.begun_still;
        entries_still = y.entries_still ∙ x;
      }
      go Idle x y = absurd y
      go Out x y = absurd y
      go (InFlight t o) x y = absurd y
      go (Applied t o w) x y = absurd y

  -- the operation was admitted in hand, or is delayed: nothing is new of the ticket
  pub admitted_same : (m : Meaning) (p q : Holding S) (op : Op) → OnServing p.caller.stage (AdmitsKept m p q op admission.Admitted) → SameTicket p q
  admitted_same m p q op w = go p.caller.stage refl w
    where
      go : (st : Stage) → p.caller.stage ≡ st → OnServing st (AdmitsKept m p q op admission.Admitted) → SameTicket p q
      go (Serving t) e x =
          let E : Stage → Type 0 = λ s. OfTicket s (λ u. entries_at q u ≡ entries_at p u) in
          record {
            stage_still = x.stage_is ∙ sym e;
            foresight_still = x.foresight_still;
            begun_still = x.begun_still;
            entries_still = subst E (sym e) x.entries_still;
          }
      go Idle e x = absurd x
      go Out e x = absurd x
      go (InFlight t o) e x = absurd x
      go (Applied t o v) e x = absurd x

  pub admitted_free : (m : Meaning) (p q : Holding S) (op : Op) → OnServing p.caller.stage (AdmitsKept m p q op admission.Admitted) → IsFreeKept q op
  admitted_free m p q op w = go p.caller.stage w
    where
      go : (st : Stage) → OnServing st (AdmitsKept m p q op admission.Admitted) → IsFreeKept q op
      go (Serving t) x =
          let E : Stage → Type 0 = λ s. OnServing s (λ u. IsFree (present_book q) u op) in
          subst E (sym x.stage_is) x.free
      go Idle x = absurd x
      go Out x = absurd x
      go (InFlight t o) x = absurd x
      go (Applied t o v) x = absurd x

  pub admitted_in_hand : (m : Meaning) (p q : Holding S) (op : Op) → OnServing p.caller.stage (AdmitsKept m p q op admission.Admitted) → IsKept q.book
  admitted_in_hand m p q op w = go p.caller.stage w
    where
      go : (st : Stage) → OnServing st (AdmitsKept m p q op admission.Admitted) → IsKept q.book
      go (Serving t) x = x.hand.kept
      go Idle x = absurd x
      go Out x = absurd x
      go (InFlight t o) x = absurd x
      go (Applied t o v) x = absurd x

  pub delayed_same : (m : Meaning) (p q : Holding S) (op : Op) (older : ℕ) (y : Symbol) → OnServing p.caller.stage (AdmitsKept m p q op (admission.Delayed older y)) → SameTicket p q
  delayed_same m p q op older y w = go p.caller.stage refl w
    where
      go : (st : Stage) → p.caller.stage ≡ st → OnServing st (AdmitsKept m p q op (admission.Delayed older y)) → SameTicket p q
      go (Serving t) e x =
          let E : Stage → Type 0 = λ s. OfTicket s (λ u. entries_at q u ≡ entries_at p u) in
          record {
            stage_still = x.stage_is ∙ sym e;
            foresight_still = x.foresight_still;
            begun_still = x.begun_still;
            entries_still = subst E (sym e) x.entries_still;
          }
      go Idle e x = absurd x
      go Out e x = absurd x
      go (InFlight t o) e x = absurd x
      go (Applied t o v) e x = absurd x

  -- ---- the operation is put in flight, and done apart
  pub launched_flies : (m : Meaning) (p q : Holding S) (op : Op) → OnServing p.caller.stage (LaunchedKept m p q op) → OnServing p.caller.stage (FliesAt p q op)
  launched_flies m p q op w = go p.caller.stage w
    where
      go : (st : Stage) → OnServing st (LaunchedKept m p q op) → OnServing st (FliesAt p q op)
      go (Serving t) x = record { stage_is = x.stage_is; foresight_still = x.foresight_still; begun_still = x.begun_still; entries_still = x.entries_still }
      go Idle x = absurd x
      go Out x = absurd x
      go (InFlight t o) x = absurd x
      go (Applied t o v) x = absurd x

  pub launched_none : (m : Meaning) (p q : Holding S) (op : Op) → OnServing p.caller.stage (LaunchedKept m p q op) → q.book ≡ None
  launched_none m p q op w = go p.caller.stage w
    where
      go : (st : Stage) → OnServing st (LaunchedKept m p q op) → q.book ≡ None
      go (Serving t) x = x.none
      go Idle x = absurd x
      go Out x = absurd x
      go (InFlight t o) x = absurd x
      go (Applied t o v) x = absurd x

  pub flies_stage : (p q : Holding S) (op : Op) → OnServing p.caller.stage (FliesAt p q op) → OnFlight q.caller.stage (λ t o. o ≡ op)
  flies_stage p q op w = go p.caller.stage w
    where
      go : (st : Stage) → OnServing st (FliesAt p q op) → OnFlight q.caller.stage (λ t o. o ≡ op)
      go (Serving t) x =
          let F : Stage → Type 0 = λ s. OnFlight s (λ u o. o ≡ op) in
          subst F (sym x.stage_is) refl
      go Idle x = absurd x
      go Out x = absurd x
      go (InFlight t o) x = absurd x
      go (Applied t o v) x = absurd x

  pub flies_again : (p q r : Holding S) (op : Op) → SameTicket p q → OnServing q.caller.stage (FliesAt q r op) → OnServing p.caller.stage (FliesAt p r op)
  flies_again p q r op s c =
      let R : Stage → Type 0 = λ st. OnServing st (FliesAt q r op) in
      go p.caller.stage s.entries_still (subst R s.stage_still c)
    where
      go : (st : Stage) → OfTicket st (λ t. entries_at q t ≡ entries_at p t) → OnServing st (FliesAt q r op) → OnServing st (FliesAt p r op)
      go (Serving t) x y = record {
        stage_is = y.stage_is;
        foresight_still = y.foresight_still ∙ s.foresight_still;
        begun_still = y.begun_still ∙ s.begun_still;
        entries_still = y.entries_still ∙ x;
      }
      go Idle x y = absurd y
      go Out x y = absurd y
      go (InFlight t o) x y = absurd y
      go (Applied t o w) x y = absurd y

  -- what was in flight is done
  pub flown : (p q r : Holding S) (op : Op) (v : Value) → OnServing p.caller.stage (FliesAt p q op) → HasCalled q r op v → OnServing p.caller.stage (CalledAt p r op v)
  flown p q r op v f c = go p.caller.stage f
    where
      go : (st : Stage) → OnServing st (FliesAt p q op) → OnServing st (CalledAt p r op v)
      go (Serving t) x =
          let R : Stage → Type 0 = λ s. CalledFrom q r s op v in
          let y : CalledAt q r op v t = subst R x.stage_is c in
          record {
            stage_is = y.stage_is;
            foresight_still = y.foresight_still ∙ x.foresight_still;
            begun_still = y.begun_still ∙ x.begun_still;
            entries_still = y.entries_still ∙ x.entries_still;
          }
      go Idle x = absurd x
      go Out x = absurd x
      go (InFlight t o) x = absurd x
      go (Applied t o w) x = absurd x

  pub called_serving : (p q : Holding S) (op : Op) (v : Value) → OnServing p.caller.stage (CalledAt p q op v) → HasCalled p q op v
  called_serving p q op v w = go p.caller.stage w
    where
      go : (st : Stage) → OnServing st (CalledAt p q op v) → CalledFrom p q st op v
      go (Serving t) x = x
      go Idle x = absurd x
      go Out x = absurd x
      go (InFlight t o) x = absurd x
      go (Applied t o u) x = absurd x

  -- the same, where it is known that the ticket calls it
  pub serving_called : (P : ℕ → Type 0) (p q : Holding S) (op : Op) (v : Value) → OnServing p.caller.stage P → HasCalled p q op v → OnServing p.caller.stage (CalledAt p q op v)
  serving_called P p q op v may w = go p.caller.stage may w
    where
      go : (st : Stage) → OnServing st P → CalledFrom p q st op v → OnServing st (CalledAt p q op v)
      go (Serving t) m x = x
      go Idle m x = absurd m
      go Out m x = absurd m
      go (InFlight t o) m x = absurd m
      go (Applied t o u) m x = absurd m

  pub called_flying : (p q : Holding S) (op : Op) (v : Value) → OnFlight p.caller.stage (λ t o. o ≡ op) → CalledFlight p q v → HasCalled p q op v
  called_flying p q op v f w = go p.caller.stage f w
    where
      go : (st : Stage) → OnFlight st (λ t o. o ≡ op) → OnFlight st (λ t o. CalledAt p q o v t) → CalledFrom p q st op v
      go (InFlight t o) e x = let C : Op → Type 0 = λ z. CalledAt p q z v t in subst C e x
      go Idle e x = absurd x
      go Out e x = absurd x
      go (Serving t) e x = absurd x
      go (Applied t o u) e x = absurd x

  pub is_in_flight : (p : Holding S) (op : Op) → OnFlight p.caller.stage (λ t o. o ≡ op) → IsInFlight p.caller.stage
  is_in_flight p op f = go p.caller.stage f
    where
      go : (st : Stage) → OnFlight st (λ t o. o ≡ op) → IsInFlight st
      go (InFlight t o) e = tt
      go Idle e = absurd e
      go Out e = absurd e
      go (Serving t) e = absurd e
      go (Applied t o u) e = absurd e

  -- nobody delays the operation, as nothing was new
  pub free_again : (p q : Holding S) (op : Op) → q.caller.stage ≡ p.caller.stage → present_book q ≡ present_book p → IsFreeKept p op → IsFreeKept q op
  free_again p q op e b f =
      let E : Stage → Type 0 = λ s. OnServing s (λ u. IsFree (present_book q) u op) in
      let B : Book → Type 0 = λ w. OnServing p.caller.stage (λ u. IsFree w u op) in
      subst E (sym e) (subst B (sym b) f)

  pub worked_still : (m : Meaning) (p q : Holding S) (shards : ℕ) (op : Op) (v : Value) → OnServing p.caller.stage (WorkedKept m p q shards op v) → q.book ≡ p.book
  worked_still m p q shards op v w = go p.caller.stage w
    where
      go : (st : Stage) → OnServing st (WorkedKept m p q shards op v) → q.book ≡ p.book
      go (Serving t) x = x.still
      go Idle x = absurd x
      go Out x = absurd x
      go (InFlight t o) x = absurd x
      go (Applied t o u) x = absurd x

  -- the book stays in hand
  pub kept_still : (p q : Holding S) → IsKept p.book → q.book ≡ p.book → IsKept q.book
  kept_still p q k e = let K : Option (BookView S) → Type 0 = λ b. IsKept b in subst K (sym e) k

  -- ---- where the book in hand stays
  caller_number : (meaning : S → Meaning) (h : Hall S) (x : Holding S) → IsHoldingOf meaning h x → caller x.caller.seat ≡ x.caller.number
  caller_number meaning h x k = go x.book k
    where
      go : (b : Option (BookView S)) → IsHoldingWith meaning (id_of (hall_name h)) (script_of h) x.caller b → caller x.caller.seat ≡ x.caller.number
      go None y = y.number_is
      go (Some v) y = y.number_is

  module _ (meaning : S → Meaning) (h : Hall S) (p q : Holding S) (k : IsHoldingOf meaning h p) (s : StaysHolding meaning h p q) (kept : IsKept p.book) (still : q.book ≡ p.book) where
    pub present_still : present_book q ≡ present_book p
    present_still = go p.book q.book still kept
      where
        go : (b o : Option (BookView S)) → o ≡ b → IsKept b → book_at o (book_of q.caller) ≡ book_at b (book_of p.caller)
        go (Some v) o e y = ap (λ (x : Option (BookView S)). book_at x (book_of q.caller)) e
        go None o e y = absurd y

    foresight_stays : foresight_at q ≡ foresight_at p
    foresight_stays = λ i. foresight_in (record_of (present_still i) (s.1 i))

    begun_stays : begun_at q ≡ begun_at p
    begun_stays =
        let e : caller q.caller.seat ≡ caller p.caller.seat = caller_number meaning h q s.0 ∙ s.1 ∙ sym (caller_number meaning h p k) in
        λ i. tickets_by (e i) (present_still i).journal

    pub busy_same : q.caller.stage ≡ p.caller.stage → SameTicket p q
    busy_same e = record {
      stage_still = e;
      foresight_still = foresight_stays;
      begun_still = begun_stays;
      entries_still = of_each p.caller.stage (λ t. entries_at q t ≡ entries_at p t) (λ t. ap (λ (b : Book). entries b.journal t) present_still);
    }

    pub worked_called : (m : Meaning) (shards : ℕ) (op : Op) (v : Value) → OnServing p.caller.stage (WorkedKept m p q shards op v) → OnServing p.caller.stage (CalledAt p q op v)
    worked_called m shards op v w = go p.caller.stage w
      where
        go : (st : Stage) → OnServing st (WorkedKept m p q shards op v) → OnServing st (CalledAt p q op v)
        go (Serving t) x = record {
          stage_is = x.stage_is;
          foresight_still = foresight_stays;
          begun_still = begun_stays;
          entries_still = ap (λ (b : Book). entries b.journal t) present_still;
        }
        go Idle x = absurd x
        go Out x = absurd x
        go (InFlight t o) x = absurd x
        go (Applied t o u) x = absurd x
