-- A caller that tries again after a turn was found taken.
use Rattle.std.proofs.Common.{◌≡◌, ℕ, suc, ◌+◌, List, [], append-nil, refl, sym, ◌∙◌, ap, subst, arith}
use Rattle.turn_board.specs.Boards.{caller, lost, givings, turn_count}
use Rattle.symbolic_ops.specs.declared.symbol.Symbol.{Symbol}
use Rattle.session_journal.specs.Journal.{entries}
use Rattle.session_journal.specs.Script.{Meaning}
use Rattle.admission_book.specs.Book.{Book}
use Rattle.admission_book.specs.Methods.{Grows}
use Rattle.session_hall.specs.declared.caller.Caller.{Caller}
use Rattle.session_hall.specs.declared.hall.Hall.{Hall}
use Rattle.session_hall.specs.declared.stage.Stage.{Stage}
use Rattle.session_hall.specs.declared.stage.Stage.TheVariants.{Idle, Serving as Serves, InFlight, Applied, Out}
use Rattle.session_hall.specs.Callers.{IsCallerOf, StaysCaller, book_in, book_of, foresight_of}
use Rattle.session_hall.specs.Begun.{tickets_by}
use Rattle.session_hall.specs.Calls.{IsBusy, IsBusyAt}
use Rattle.session_hall.specs.Names.{script_of}
use Rattle.session_hall.specs.Stages.{HoldsNone, IsInFlight, OnFlight, OnServing, Stands}
use Rattle.session_hall.specs.Waits.{OnlyBookLost, OnlyDelayed, OnlyLost, OnlyShardLost}

-- what follows of the ticket that is served
each_serving : (st : Stage) (P Q : ℕ → Type 0) → ((t : ℕ) → P t → Q t) → OnServing st P → OnServing st Q
each_serving (Serves t) P Q f x = f t x
each_serving Idle P Q f x = x
each_serving Out P Q f x = x
each_serving (InFlight t op) P Q f x = x
each_serving (Applied t op v) P Q f x = x

module _ {S : Type 0} where
  -- two callers with one number, whose seats are one caller's
  abbrev pub IsSame : Caller S → Caller S → Type 0
  IsSame p q = (q.number ≡ p.number) × (caller q.seat ≡ caller p.seat)

  pub both_same : (meaning : S → Meaning) (h : Hall S) (p q : Caller S) → IsCallerOf meaning h p → StaysCaller meaning h p q → IsSame p q
  both_same meaning h p q k s = (s.1, s.0.number_is ∙ s.1 ∙ sym k.number_is)

  none_lost : (p : Caller S) → OnlyLost p p 0
  none_lost p = record { number_still = refl; caller_still = refl; stage_still = refl; foresight_still = refl; note_still = refl; given_still = refl; change_still = refl; held_still = λ u. refl; hands_still = refl; lost_grows = λ u. omega arith; asked = omega arith }

  lost_more : (m : Meaning) (p via q : Caller S) (u after tries : ℕ) → OnlyLost p via tries → IsSame via q → IsBusy m via q u after → OnlyLost p q (suc tries)
  lost_more m p via q u after tries o n b = record {
    number_still = n.0 ∙ o.number_still;
    caller_still = n.1 ∙ o.caller_still;
    stage_still = b.stage_still ∙ o.stage_still;
    foresight_still = b.foresight_still ∙ o.foresight_still;
    note_still = b.note_still ∙ o.note_still;
    given_still = b.given_still ∙ o.given_still;
    change_still = b.change_still ∙ o.change_still;
    held_still = λ w. b.held_still w ∙ o.held_still w;
    hands_still = b.hands_still ∙ o.hands_still;
    lost_grows = λ w. (let x = o.lost_grows w in let y = b.lost_grows w in omega (arith, x, y));
    asked = (let x = o.asked in let y = b.asks_more in omega (arith, x, y));
  }

  -- what is asked of stage, foresight and note goes on to hold
  pub still_may : (m : Meaning) (P : Stage → List Symbol → Book → Type 0) (p q : Caller S) (u after : ℕ) → IsBusy m p q u after → P p.stage (foresight_of p) (book_of p) → P q.stage (foresight_of q) (book_of q)
  still_may m P p q u after b x =
      let A : Stage → Type 0 = λ s. P s (foresight_of p) (book_of p) in
      let B : List Symbol → Type 0 = λ l. P q.stage l (book_of p) in
      let C : Book → Type 0 = λ w. P q.stage (foresight_of q) w in
      let same : book_of p ≡ book_of q = ap book_in (sym b.note_still) in
      subst C same (subst B (sym b.foresight_still) (subst A (sym b.stage_still) x))

  -- ---- the book was found taken
  pub none_tried : (p : Caller S) → OnlyBookLost p p
  none_tried p = record { tries = 0; only = none_lost p; found = omega arith; givings_still = refl }

  pub one_tried : (m : Meaning) (p via q : Caller S) (u : ℕ) → OnlyBookLost p via → IsSame via q → (u ≡ 0) × IsBusy m via q u (givings via.seat) → OnlyBookLost p q
  one_tried m p via q u o n b = record {
    tries = suc o.tries;
    only = lost_more m p via q u (givings via.seat) o.tries o.only n b.1;
    found = (let P : ℕ → Type 0 = λ w. lost q.seat w ≡ lost via.seat w + 1 in let r : lost q.seat 0 ≡ lost via.seat 0 + 1 = subst P b.0 b.1.rose in let x = o.found in omega (arith, r, x));
    givings_still = b.1.givings_is ∙ o.givings_still;
  }

  -- ---- a shard was found taken
  pub no_shard_tried : (m : Meaning) (shards : ℕ) (p : Caller S) → OnlyShardLost m shards p p
  no_shard_tried m shards p = record { tries = 0; only = none_lost p; each = refl }

  pub one_shard_tried : (m : Meaning) (shards : ℕ) (p via q : Caller S) (u : ℕ) → OnlyShardLost m shards p via → IsSame via q → OnFlight via.stage (IsBusyAt m via q shards u) → OnlyShardLost m shards p q
  one_shard_tried m shards p via q u o n b = go via.stage b
    where
      vain : (st : Stage) → OnFlight st (IsBusyAt m via q shards u) → OnFlight st (λ t op. (w : ℕ) × IsBusyAt m via q shards w t op)
      vain (InFlight t op) x = (u, x)
      vain Idle x = absurd x
      vain Out x = absurd x
      vain (Serves t) x = absurd x
      vain (Applied t op v) x = absurd x

      go : (st : Stage) → OnFlight st (IsBusyAt m via q shards u) → OnlyShardLost m shards p q
      go (InFlight t op) x = record { tries = suc o.tries; only = lost_more m p via q u x.after o.tries o.only n x.busy; each = (via, o.each, vain via.stage b) }
      go Idle x = absurd x
      go Out x = absurd x
      go (Serves t) x = absurd x
      go (Applied t op v) x = absurd x

  pub flight_still : (m : Meaning) (shards : ℕ) (p q : Caller S) (u : ℕ) → OnFlight p.stage (IsBusyAt m p q shards u) → IsInFlight q.stage
  flight_still m shards p q u b = go p.stage b refl
    where
      go : (st : Stage) → OnFlight st (IsBusyAt m p q shards u) → p.stage ≡ st → IsInFlight q.stage
      go (InFlight t op) x e = let P : Stage → Type 0 = λ s. IsInFlight s in subst P (sym (x.busy.stage_still ∙ e)) tt
      go Idle x e = absurd x
      go Out x e = absurd x
      go (Serves t) x e = absurd x
      go (Applied t op v) x e = absurd x

  -- ---- the book was found taken where an operation may have been delayed before
  pub none_delayed : (p : Caller S) (t : ℕ) → OnlyDelayed p p t
  none_delayed p t = record {
    number_still = refl;
    caller_still = refl;
    begun_still = refl;
    stage_still = refl;
    foresight_still = refl;
    journal_grows = record { more = []; is = sym (append-nil (book_of p).journal) };
    entries_still = refl;
    given_grows = omega arith;
    held_still = λ u. refl;
    hands_still = refl;
    lost_grows = λ u. omega arith;
    losses = 0;
    delays = 0;
    asked = omega arith;
    found = omega arith;
    gave = omega arith;
    givings_more = omega arith;
  }

  pub nothing_delayed : (p : Caller S) (P : ℕ → Type 0) → OnServing p.stage P → OnServing p.stage (OnlyDelayed p p)
  nothing_delayed p P s = each_serving p.stage P (OnlyDelayed p p) (λ t x. none_delayed p t) s

  pub one_lost : (m : Meaning) (p via q : Caller S) (u : ℕ) → OnServing p.stage (OnlyDelayed p via) → IsSame via q → (u ≡ 0) × IsBusy m via q u (givings via.seat) → OnServing p.stage (OnlyDelayed p q)
  one_lost m p via q u s n b = each_serving p.stage (OnlyDelayed p via) (OnlyDelayed p q) (λ t o.
      let same : book_of q ≡ book_of via = ap book_in b.1.note_still in
      let J : Book → Type 0 = λ w. Grows (book_of p).journal w.journal in
      let P : ℕ → Type 0 = λ w. lost q.seat w ≡ lost via.seat w + 1 in
      let rose : lost q.seat 0 ≡ lost via.seat 0 + 1 = subst P b.0 b.1.rose in
      record {
        number_still = n.0 ∙ o.number_still;
        caller_still = n.1 ∙ o.caller_still;
        begun_still = (λ i. tickets_by (n.1 i) (same i).journal) ∙ o.begun_still;
        stage_still = b.1.stage_still ∙ o.stage_still;
        foresight_still = b.1.foresight_still ∙ o.foresight_still;
        journal_grows = subst J (sym same) o.journal_grows;
        entries_still = ap (λ (w : Book). entries w.journal t) same ∙ o.entries_still;
        given_grows = omega (arith, o.given_grows, b.1.given_still);
        held_still = λ w. b.1.held_still w ∙ o.held_still w;
        hands_still = b.1.hands_still ∙ o.hands_still;
        lost_grows = λ w. omega (arith, o.lost_grows w, b.1.lost_grows w);
        losses = o.losses + 1;
        delays = o.delays;
        asked = omega (arith, o.asked, b.1.asks_more);
        found = omega (arith, o.found, rose);
        gave = b.1.given_still ∙ o.gave;
        givings_more = b.1.givings_is ∙ o.givings_more;
      }) s

  -- who serves a ticket with no operation in flight holds nothing
  pub serving_holds : (meaning : S → Meaning) (h : Hall S) (c : Caller S) (k : IsCallerOf meaning h c) (P : ℕ → Type 0) → OnServing c.stage P → HoldsNone c.seat c.hands.pairs
  serving_holds meaning h c k P s = go c.stage k.stands s
    where
      go : (st : Stage) → Stands (meaning (script_of h)) (turn_count h.board) st (foresight_of c) (book_of c) c.seat c.hands.pairs → OnServing st P → HoldsNone c.seat c.hands.pairs
      go (Serves t) x y = x.1
      go Idle x y = absurd y
      go Out x y = absurd y
      go (InFlight t op) x y = absurd y
      go (Applied t op v) x y = absurd y
