-- A try call takes the book, changes it, and gives it back: what the three leave is what the call
-- leaves.
use Rattle.std.proofs.Common.{◌≡◌, ℕ, ◌+◌, ◌<◌, List, Option, Some, None, ◌∙◌, ap, subst, sym}
use Rattle.std.proofs.lemmas.Option.{same_Some}
use Rattle.session_values.specs.declared.reply.Reply.{Reply}
use Rattle.session_values.specs.Dialogue.{Entry}
use Rattle.symbolic_ops.specs.declared.symbol.Symbol.{Symbol}
use Rattle.session_journal.specs.Journal.{begun, ended, entries}
use Rattle.session_journal.specs.Script.{Meaning}
use Rattle.admission_book.specs.Book.{Book, record_of, after_begin, after_end, after_narrow}
use Rattle.admission_book.specs.Methods.{BookView}
use Rattle.turn_board.specs.Boards.{asks, caller, given, givings, lost}
use Rattle.session_hall.specs.declared.caller.Caller.{Caller}
use Rattle.session_hall.specs.declared.holding.Holding.{Holding}
use Rattle.session_hall.specs.declared.stage.Stage.{Stage}
use Rattle.session_hall.specs.declared.stage.Stage.TheVariants.{Idle, Serving as Serves, InFlight, Applied, Out}
use Rattle.session_hall.specs.Callers.{entries_of, foresight_of}
use Rattle.session_hall.specs.Calls.{BeganTicket, DeclaredAt, EndedAt, FoundAllBegun, GaveBack}
use Rattle.session_hall.specs.HoldingCalls.{BeganKept, BeginsKept, DeclaredKept, EndedKept, FoundAllKept, GaveKept, IsQuiet, OfTicket, SameHand, TookBookAs}
use Rattle.session_hall.specs.InHand.{Becomes, list_in}
use Rattle.session_hall.specs.Stages.{IsBetween, OnServing, foresight_in, waiting}

-- ---- the stages of a caller with the book in hand
pub between_quiet : (st : Stage) → IsBetween st → IsQuiet st
between_quiet Idle i = tt
between_quiet Out i = tt
between_quiet (Serves t) i = tt
between_quiet (InFlight t op) i = i
between_quiet (Applied t op v) i = i

pub serving_quiet : (st : Stage) (P : ℕ → Type 0) → OnServing st P → IsQuiet st
serving_quiet (Serves t) P x = tt
serving_quiet Idle P x = absurd x
serving_quiet Out P x = absurd x
serving_quiet (InFlight t op) P x = absurd x
serving_quiet (Applied t op v) P x = absurd x

-- what follows of the ticket that is served, where more is known of it
served : (st : Stage) (P E Q : ℕ → Type 0) → ((t : ℕ) → P t → E t → Q t) → OnServing st P → OfTicket st E → OnServing st Q
served (Serves t) P E Q f x e = f t x e
served Idle P E Q f x e = x
served Out P E Q f x e = x
served (InFlight t op) P E Q f x e = x
served (Applied t op v) P E Q f x e = x

-- a holding of this caller with this book
abbrev of_caller : {S : Type 0} → Caller S → Option (BookView S) → Holding S
of_caller c o = record { caller = c; book = o; ends = 0; entered = 0 }

module _ {S : Type 0} (m : Meaning) (p c : Caller S) (b : BookView S)
    (took : Becomes (λ h k. TookBookAs m h k b.book) p None c (Some b)) where
  found : TookBookAs m (of_caller p None) (of_caller c (Some b)) b.book
  found = took 0 0 0 0

  -- what the note allows is allowed at the book that was taken
  pub may_in_hand : (P : List Symbol → List Entry → ℕ → Type 0)
      → OnServing p.stage (λ t. P (foresight_of p) (entries_of p t) t)
      → OnServing c.stage (λ t. P (list_in c b) (entries b.book.journal t) t)
  may_in_hand P may =
      let Q : Stage → Type 0 = λ s. OnServing s (λ t. P (list_in c b) (entries b.book.journal t) t) in
      subst Q (sym found.stage_still) (served p.stage (λ t. P (foresight_of p) (entries_of p t) t) (λ t. entries b.book.journal t ≡ entries_of p t) (λ t. P (list_in c b) (entries b.book.journal t) t)
      (λ t x e. let F : List Symbol → Type 0 = λ l. P l (entries b.book.journal t) t in let G : List Entry → Type 0 = λ l. P (foresight_of p) l t in subst F (sym found.foresight_still) (subst G (sym e) x))
      may found.entries_still)

  module _ (d q : Caller S) (w : BookView S) (number : q.number ≡ d.number)
      (gave : Becomes (λ h k. GaveKept m h k) d (Some w) q None) where
    back : GaveKept m (of_caller d (Some w)) (of_caller q None)
    back = gave 0 0 0 0

    foresight_back : foresight_of q ≡ list_in d w
    foresight_back = λ i. foresight_in (record_of (back.noted i) (number i))

    gave_back : SameHand m (of_caller c (Some b)) (of_caller d (Some w)) → (left : Book) → w.book ≡ left
        → GaveBack m p q b.book left
    gave_back hand left is = record {
      rule = found.rule;
      finds = found.finds;
      noted = back.noted ∙ is;
      given_more = back.given_more ∙ ap (λ s. given s + 1) hand.seat_still ∙ ap (λ (n : ℕ). n + 1) found.given_still;
      lost_still = λ u. back.lost_still u ∙ ap (λ s. lost s u) hand.seat_still ∙ found.lost_still u;
      asks_more = back.asks_still ∙ ap (λ s. asks s) hand.seat_still ∙ found.asks_more;
      givings_more = back.givings_more ∙ ap (λ s. givings s + 1) hand.seat_still ∙ ap (λ (n : ℕ). n + 1) found.givings_still;
    }

    -- ---- begin
    module _ (result : Option ℕ) (begins : Becomes (λ h k. BeginsKept m h k result) c (Some b) d (Some w)) where
      pub began_ticket : (t : ℕ) → result ≡ Some t → BeganTicket m p q t
      began_ticket t e =
          let P : Option ℕ → Type 0 = λ o. BeginsKept m (of_caller c (Some b)) (of_caller d (Some w)) o in
          let k : BeganKept m (of_caller c (Some b)) (of_caller d (Some w)) t = subst P e (begins 0 0 0 0) in
          record {
            found = b.book;
            gave = gave_back k.hand (after_begin b.book (caller p.seat) (m.entry t)) (k.is ∙ ap (λ (u : ℕ). after_begin b.book u (m.entry t)) found.caller_still);
            next = k.next;
            within = k.within;
            stage_is = back.stage_still ∙ k.stage_is;
            foresight_is = foresight_back ∙ k.foresight_is;
            no_entries = ap (λ (x : Book). entries x.journal t) back.noted ∙ k.no_entries;
          }

      pub found_all_begun : result ≡ None → FoundAllBegun m p q
      found_all_begun e =
          let P : Option ℕ → Type 0 = λ o. BeginsKept m (of_caller c (Some b)) (of_caller d (Some w)) o in
          let k : FoundAllKept m (of_caller c (Some b)) (of_caller d (Some w)) = subst P e (begins 0 0 0 0) in
          record {
            found = b.book;
            gave = gave_back k.hand b.book (ap (λ (v : BookView S). v.book) (same_Some w b k.still));
            all = k.all;
            stage_is = back.stage_still ∙ k.stage_is;
          }

    -- ---- declare
    pub declared_at : (f : List Symbol) → OnServing c.stage (λ t. Becomes (λ h k. DeclaredKept m h k f t) c (Some b) d (Some w))
        → OnServing p.stage (DeclaredAt m p q f)
    declared_at f declared =
        let P : Stage → Type 0 = λ s. OnServing s (λ t. Becomes (λ h k. DeclaredKept m h k f t) c (Some b) d (Some w)) in
        served p.stage (λ t. Becomes (λ h k. DeclaredKept m h k f t) c (Some b) d (Some w)) (λ t. entries b.book.journal t ≡ entries_of p t) (DeclaredAt m p q f) (λ t x e.
        let k : DeclaredKept m (of_caller c (Some b)) (of_caller d (Some w)) f t = x 0 0 0 0 in
        record {
          found = b.book;
          gave = gave_back k.hand (after_narrow b.book (caller p.seat) (waiting t (foresight_of p)) f) (k.is ∙ (λ i. after_narrow b.book (found.caller_still i) (waiting t (found.foresight_still i)) f));
          stage_is = back.stage_still ∙ k.stage_is;
          foresight_is = foresight_back ∙ k.foresight_is;
          entries_still = ap (λ (y : Book). entries y.journal t) back.noted ∙ k.entries_still ∙ e;
        })
        (subst P found.stage_still declared) found.entries_still

    -- ---- end
    pub ended_at : (r : Reply) → OnServing c.stage (λ t. Becomes (λ h k. EndedKept m h k r t) c (Some b) d (Some w))
        → OnServing p.stage (EndedAt m p q r)
    ended_at r ended_so =
        let P : Stage → Type 0 = λ s. OnServing s (λ t. Becomes (λ h k. EndedKept m h k r t) c (Some b) d (Some w)) in
        served p.stage (λ t. Becomes (λ h k. EndedKept m h k r t) c (Some b) d (Some w)) (λ t. entries b.book.journal t ≡ entries_of p t) (EndedAt m p q r) (λ t x e.
        let k : EndedKept m (of_caller c (Some b)) (of_caller d (Some w)) r t = x 0 0 0 0 in
        let Q : Book → Type 0 = λ y. t < begun y.journal in
        record {
          found = b.book;
          gave = gave_back k.hand (after_end b.book (caller p.seat) (waiting t (foresight_of p)) r) (k.is ∙ (λ i. after_end b.book (found.caller_still i) (waiting t (found.foresight_still i)) r));
          stage_is = back.stage_still ∙ k.stage_is;
          foresight_is = foresight_back ∙ k.foresight_is;
          entries_still = ap (λ (y : Book). entries y.journal t) back.noted ∙ k.entries_still ∙ e;
          is_begun = subst Q (sym back.noted) k.is_begun;
          is_ended = ap (λ (y : Book). ended y.journal t) back.noted ∙ k.is_ended;
        })
        (subst P found.stage_still ended_so) found.entries_still

-- ---- the stages that the changes leave
pub begun_quiet : {S : Type 0} (m : Meaning) (c d : Caller S) (b w : BookView S) (result : Option ℕ)
    → Becomes (λ h k. BeginsKept m h k result) c (Some b) d (Some w) → IsQuiet d.stage
begun_quiet {S} m c d b w result begins = go result (begins 0 0 0 0)
  where
    go : (o : Option ℕ) → BeginsKept m (of_caller c (Some b)) (of_caller d (Some w)) o → IsQuiet d.stage
    go (Some t) k = let P : Stage → Type 0 = λ s. IsQuiet s in subst P (sym k.stage_is) tt
    go None k = let P : Stage → Type 0 = λ s. IsQuiet s in subst P (sym k.stage_is) tt

pub ended_quiet : {S : Type 0} (m : Meaning) (c d : Caller S) (b w : BookView S) (r : Reply)
    (st : Stage) → OnServing st (λ t. Becomes (λ h k. EndedKept m h k r t) c (Some b) d (Some w))
    → IsQuiet d.stage
ended_quiet m c d b w r (Serves t) x = let P : Stage → Type 0 = λ s. IsQuiet s in subst P (sym (x 0 0 0 0).stage_is) tt
ended_quiet m c d b w r Idle x = absurd x
ended_quiet m c d b w r Out x = absurd x
ended_quiet m c d b w r (InFlight t op) x = absurd x
ended_quiet m c d b w r (Applied t op v) x = absurd x
