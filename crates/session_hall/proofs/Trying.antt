-- A caller whose operation was delayed tries again.
use Rattle.std.proofs.Common.{◌≡◌, ℕ, ◌+◌, List, [], ◌∷◌, ◌++◌, Bool, true, false, cond, refl, sym, ◌∙◌, ap, subst, append_assoc, append-nil, arith}
use Rattle.session_values.specs.declared.op.Op.{Op}
use Rattle.session_values.specs.Dialogue.{Calls, Entry, replies}
use Rattle.symbolic_ops.specs.declared.symbol.Symbol.{Symbol}
use Rattle.symbolic_ops.specs.Matching.{Matches}
use Rattle.session_journal.specs.declared.event.Event.{Event}
use Rattle.session_journal.specs.declared.event.Event.TheVariants.{Delay}
use Rattle.session_journal.specs.Script.{Meaning}
use Rattle.admission_book.specs.Book.{Book, after_delay, with_event}
use Rattle.session_journal.specs.EventsInTurn.{is_delayed}
use Rattle.admission_book.specs.Methods.{Grows}
use Rattle.turn_board.specs.Boards.{caller}
use Rattle.session_hall.specs.declared.caller.Caller.{Caller}
use Rattle.session_hall.specs.declared.stage.Stage.{Stage}
use Rattle.session_hall.specs.declared.stage.Stage.TheVariants.{Idle, Serving as Serves, InFlight, Applied, Out}
use Rattle.session_hall.specs.Callers.{book_of, foresight_of}
use Rattle.session_hall.specs.Calls.{ByNote, MayCall, DelayedAt}
use Rattle.session_hall.specs.Stages.{HoldsNone, OnServing}
use Rattle.session_hall.specs.Begun.{tickets_by}
use Rattle.session_hall.specs.Waits.{OnlyDelayed}
use Rattle.session_hall.proofs.Begun.{begun_since, delay_begun}
use Rattle.session_hall.proofs.Tried.{IsSame}

delay_grows : (b : Book) (t : ℕ) (op : Op) (older : ℕ) (y : Symbol) → Grows b.journal (after_delay b t op older y).journal
delay_grows b t op older y = go (is_delayed b.journal t)
  where
    go : (x : Bool) → Grows b.journal (cond x b (with_event b (Delay t op older y))).journal
    go true = record { more = []; is = sym (append-nil b.journal) }
    go false = record { more = Delay t op older y ∷ []; is = refl }

grows_on : (I K L : List Event) → Grows I K → Grows K L → Grows I L
grows_on I K L a b = record { more = a.more ++ b.more; is = b.is ∙ ap (λ (l : List Event). l ++ b.more) a.is ∙ append_assoc I a.more b.more }

-- two facts of one ticket
one_ticket : (st to : Stage) (P Q R : ℕ → Type 0) → to ≡ st → OnServing st P → OnServing to Q → ((t : ℕ) → P t → Q t → R t) → OnServing st R
one_ticket st to P Q R e p q f = go st p (let T : Stage → Type 0 = λ s. OnServing s Q in subst T e q)
  where
    go : (s : Stage) → OnServing s P → OnServing s Q → OnServing s R
    go (Serves t) x y = f t x y
    go Idle x y = x
    go Out x y = x
    go (InFlight t op) x y = x
    go (Applied t op v) x y = x

module _ {S : Type 0} where
  -- the stage is the first caller's
  stage_of : (p via : Caller S) (st : Stage) → OnServing st (OnlyDelayed p via) → via.stage ≡ p.stage
  stage_of p via (Serves t) d = d.stage_still
  stage_of p via Idle d = absurd d
  stage_of p via Out d = absurd d
  stage_of p via (InFlight t op) d = absurd d
  stage_of p via (Applied t op v) d = absurd d

  module _ (m : Meaning) (p via q : Caller S) (op : Op) (s : OnServing p.stage (OnlyDelayed p via)) (older : ℕ) (y : Symbol) (d : OnServing via.stage (DelayedAt m via q op older y)) where
    delayed_stage : (st : Stage) → OnServing st (DelayedAt m via q op older y) → q.stage ≡ st
    delayed_stage (Serves w) z = z.stage_is
    delayed_stage Idle z = absurd z
    delayed_stage Out z = absurd z
    delayed_stage (InFlight w o) z = absurd z
    delayed_stage (Applied w o v) z = absurd z

    pub delay_more : IsSame via q → HoldsNone via.seat via.hands.pairs → HoldsNone q.seat q.hands.pairs → OnServing p.stage (OnlyDelayed p q)
    delay_more same none still = one_ticket p.stage via.stage (OnlyDelayed p via) (DelayedAt m via q op older y) (OnlyDelayed p q) (stage_of p via p.stage s) s d (λ t a x.
        let since : Grows (book_of via).journal x.found.journal = record { more = x.gave.finds.since.since; is = sym x.gave.finds.since.grows } in
        let P : Book → Type 0 = λ w. Grows (book_of via).journal w.journal in
        record {
          number_still = same.0 ∙ a.number_still;
          caller_still = same.1 ∙ a.caller_still;
          begun_still = (λ i. tickets_by (same.1 i) (x.gave.noted i).journal) ∙ delay_begun (caller via.seat) x.found t op older y
              ∙ begun_since m (book_of via) x.found (caller via.seat) x.gave.finds.lawful x.gave.finds.since ∙ a.begun_still;
          stage_still = delayed_stage via.stage d ∙ a.stage_still;
          foresight_still = x.foresight_still ∙ a.foresight_still;
          journal_grows = grows_on (book_of p).journal (book_of via).journal (book_of q).journal a.journal_grows
              (subst P (sym x.gave.noted) (grows_on (book_of via).journal x.found.journal (after_delay x.found t op older y).journal since (delay_grows x.found t op older y)));
          entries_still = x.entries_still ∙ a.entries_still;
          given_grows = omega (arith, a.given_grows, x.gave.given_more);
          held_still = λ u. still.free u ∙ sym (none.free u) ∙ a.held_still u;
          hands_still = still.no_pairs ∙ sym none.no_pairs ∙ a.hands_still;
          lost_grows = λ u. omega (arith, a.lost_grows u, x.gave.lost_still u);
          losses = a.losses;
          delays = a.delays + 1;
          asked = omega (arith, a.asked, x.gave.asks_more);
          found = x.gave.lost_still 0 ∙ a.found;
          gave = omega (arith, a.gave, x.gave.given_more);
          givings_more = omega (arith, a.givings_more, x.gave.givings_more);
        })

    pub delay_may : ByNote m via (MayCall (foresight_of via) op) → ByNote m q (MayCall (foresight_of q) op)
    delay_may may = go via.stage d may
      where
        go : (st : Stage) → OnServing st (DelayedAt m via q op older y) → OnServing st (λ t. MayCall (foresight_of via) op m (book_of via) t) → ByNote m q (MayCall (foresight_of q) op)
        go (Serves t) x c =
            let P : List Entry → Type 0 = λ es. m.next t (replies es) ≡ Calls op in
            let F : List Symbol → Type 0 = λ l. Matches l op in
            let Q : Stage → Type 0 = λ z. OnServing z (λ w. MayCall (foresight_of q) op m (book_of q) w) in
            subst Q (sym x.stage_is) (subst P (sym x.entries_still) c.0, subst F (sym x.foresight_still) c.1)
        go Idle x c = absurd x
        go Out x c = absurd x
        go (InFlight t o) x c = absurd x
        go (Applied t o v) x c = absurd x
