-- A turn of an operation was found taken.
use Rattle.std.proofs.Common.{◌≡◌, ◌≢◌, ℕ, suc, ◌+◌, ◌-◌, ◌^◌, ◌≤◌, ◌⊎◌, inl, inr, Option, refl, sym, ap, subst, arith}
use Rattle.std.proofs.lemmas.Bool.{cases_lt}
use Rattle.std.specs.Int.{bit_at}
use Rattle.session_values.specs.declared.op.Op.{Op}
use Rattle.session_journal.specs.Script.{Meaning}
use Rattle.admission_book.specs.Book.{record_of}
use Rattle.turn_board.specs.Seated.{TableId}
use Rattle.turn_board.specs.Boards.{IsSeatOf, SameNote, MissedAll, Tells, turn_count, caller_count, lost, givings}
use Rattle.turn_board.specs.Hands.{HandsView}
use Rattle.hall_rule.specs.declared.held.Held.{Held}
use Rattle.hall_rule.specs.Contents.{Content}
use Rattle.hall_rule.specs.Tie.{Tied}
use Rattle.hall_rule.specs.Turns.{IsTurnOf, place, span}
use Rattle.session_hall.specs.declared.caller.Caller.{Caller}
use Rattle.session_hall.specs.declared.hall.Hall.{Hall}
use Rattle.session_hall.specs.declared.stage.Stage.{Stage}
use Rattle.session_hall.specs.declared.stage.Stage.TheVariants.{InFlight}
use Rattle.session_hall.specs.Callers.{IsCallerOf, book_in}
use Rattle.session_hall.specs.Calls.{IsBusyAt}
use Rattle.session_hall.specs.Names.{script_of}
use Rattle.session_hall.specs.Stages.{SeatOf, OnFlight, foresight_in}
use Rattle.session_hall.proofs.Doing.{busy_turn, turn_bit}
use Rattle.session_hall.proofs.Finding.{is_tied}

-- no turn was found taken less often than before
pub missed_lost : {S : Type 0} (p q : SeatOf S) (set u : ℕ) → MissedAll p q set u → (w : ℕ) → lost p w ≤ lost q w
missed_lost {S} p q set u g w = elim (cases_lt w u) [
  | inl l ↦ (let e : lost q w ≡ lost p w = g.below w l in omega (arith, e))
  | inr l ↦ elim (cases_lt u w) [
    | inl z ↦ more (g.above w z)
    | inr z ↦ (let e : w ≡ u = omega (arith, l, z) in let P : ℕ → Type 0 = λ a. lost p a ≤ lost q a in subst P (sym e) (let f : lost q u ≡ lost p u + 1 = g.here in omega (arith, f)))
  ]
]
  where
    more : (lost q w ≡ lost p w) ⊎ ((bit_at set w ≡ 1) × (lost q w ≡ lost p w + 1)) → lost p w ≤ lost q w
    more (inl e) = omega (arith, e)
    more (inr e) = omega (arith, e.1)

module _ {S : Type 0} (meaning : S → Meaning) (h : Hall S) (c : Caller S) (k : IsCallerOf meaning h c) (t : ℕ) (op : Op) (st : c.stage ≡ InFlight t op) where
  abbrev m : Meaning
  m = meaning (script_of h)

  abbrev n : ℕ
  n = h.sizes.shards

  abbrev turns : ℕ
  turns = turn_count h.board

  module _ (first many : ℕ) (fe : first ≡ suc (place h.sizes.shards op)) (me : many ≡ span h.sizes.shards op) (set : ℕ) (is : set ≡ 2 ^ (first + many) - 2 ^ first) where
    module _ (q : SeatOf S) (v : SameNote c.seat q) (u : ℕ) (g : MissedAll c.seat q set u) (several : caller_count c.seat ≢ 1) (hands : HandsView (Held S)) (pairs : hands.pairs ≡ c.hands.pairs) (seat : IsSeatOf h.board q) (told : Tells (Tied meaning) (turn_count h.board) q) where
      all_lost : ((j : ℕ) → IsTurnOf n op j → lost q (suc j) ≡ lost c.seat (suc j) + 1) → (w : ℕ) → bit_at set w ≡ 1 → lost q w ≡ lost c.seat w + 1
      all_lost each w b =
          let t : (j : ℕ) × (w ≡ suc j) × IsTurnOf n op j = busy_turn meaning h c k t op st first many fe me set is w b in
          let Q : ℕ → Type 0 = λ a. lost q a ≡ lost c.seat a + 1 in
          subst Q (sym t.1) (each t.0 t.2)

      pub busy_at : OnFlight c.stage (IsBusyAt (meaning (script_of h)) c (record { seat = q; number = c.number; stage = c.stage; hands = hands }) h.sizes.shards u)
      busy_at =
          let later : Caller S = record { seat = q; number = c.number; stage = c.stage; hands = hands } in
          let P : Stage → Type 0 = λ s. OnFlight s (IsBusyAt m c later n u) in
          let b : (j : ℕ) × (u ≡ suc j) × IsTurnOf n op j = busy_turn meaning h c k t op st first many fe me set is u g.asked in
          subst P (sym st) (record {
            after = givings q;
            busy = record {
              rule = is_tied meaning (script_of h) turns c.seat q k.noted v told (ap (λ (i : TableId). i.slots) seat.placed.of_table);
              givings_is = refl;
              rose = g.here;
              lost_grows = missed_lost c.seat q set u g;
              several = several;
              asks_more = g.asks_is;
              change_still = v.change_is;
              stage_still = refl;
              foresight_still = ap (λ (x : Option (Content S)). foresight_in (record_of (book_in x) c.number)) v.note_is;
              note_still = v.note_is;
              given_still = v.given_is;
              held_still = g.held_is;
              hands_still = pairs;
            };
            place = b.0;
            turn_is = b.1;
            of_operation = b.2;
            some_won = λ j at e. g.some_won (suc j) (turn_bit meaning h c k t op st first many fe me set is j at) e;
            none_won = λ each. g.none_won (all_lost each);
          })
