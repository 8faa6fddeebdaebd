-- An operation is done on its shards.
use Rattle.std.proofs.Common.{◌≡◌, ℕ, suc, ◌+◌, ◌-◌, ◌^◌, ◌<◌, ◌≤◌, List, ◌++◌, length, inl, inr, Option, Some, None, refl, sym, ◌∙◌, ap, subst, arith}
use Rattle.std.specs.Int.{bit_at}
use Rattle.std.proofs.lemmas.Nat.Bits.{bit_at-lt, bit_at_mask_below}
use Rattle.std.proofs.lemmas.Option.{none-some}
use Rattle.session_values.specs.declared.op.Op.{Op}
use Rattle.session_values.specs.declared.value.Value.{Value}
use Rattle.session_values.specs.Dialogue.{replies}
use Rattle.session_values.specs.Tables.{Fits}
use Rattle.session_journal.specs.declared.event.Event.{Event}
use Rattle.session_journal.specs.Script.{Meaning}
use Rattle.turn_board.specs.Seated.{TableId}
use Rattle.admission_book.specs.Book.{Holds, record_of}
use Rattle.turn_board.specs.Boards.{IsSeatOf, SameNote, Tells, GainedAll, turn_count, held, caller, caller_count}
use Rattle.turn_board.specs.Hands.{HandsView, in_hands, Once}
use Rattle.turn_board.specs.Maps.{bits_of}
use Rattle.turn_board.proofs.Rows.{two}
use Rattle.hall_rule.specs.declared.held.Held.{Held}
use Rattle.hall_rule.specs.Contents.{Content, IsShard, shards_in}
use Rattle.hall_rule.specs.Shards.{content_of}
use Rattle.hall_rule.specs.Tie.{Tied}
use Rattle.hall_rule.specs.Turns.{ChangedBy, IsTurnOf, WasDone, place, span}
use Rattle.session_hall.specs.declared.caller.Caller.{Caller}
use Rattle.session_hall.specs.declared.hall.Hall.{Hall}
use Rattle.session_hall.specs.declared.stage.Stage.{Stage}
use Rattle.session_hall.specs.declared.stage.Stage.TheVariants.{InFlight, Applied}
use Rattle.session_hall.specs.Callers.{IsCallerOf, book_in, book_of, entries_of, foresight_of}
use Rattle.session_hall.specs.Calls.{AppliedAt}
use Rattle.session_hall.specs.Findings.{Finds}
use Rattle.session_hall.specs.Names.{script_of}
use Rattle.session_hall.specs.OnShards.{CanWorkIn, HasWorkedIn}
use Rattle.session_hall.specs.Stages.{SeatOf, HoldsNone, Stands, OnFlight, flying, foresight_in}
use Rattle.session_hall.proofs.Finding.{finds_book, is_tied, shard_at}
use Rattle.session_hall.proofs.Giving.{caller_on}
use Rattle.session_hall.proofs.OnRow as row
use Rattle.session_hall.proofs.OnRow.{turn_or_not}
use Rattle.session_hall.proofs.Pairs.{pairs_room}
use Rattle.session_hall.proofs.TurnSets.{bit_inside, in_row, some_set}

module _ {S : Type 0} (meaning : S → Meaning) (h : Hall S) (c : Caller S) (k : IsCallerOf meaning h c) (t : ℕ) (op : Op) (st : c.stage ≡ InFlight t op) where
  abbrev m : Meaning
  m = meaning (script_of h)

  abbrev n : ℕ
  n = h.sizes.shards

  abbrev turns : ℕ
  turns = turn_count h.board

  stands_here : Stands (meaning (script_of h)) (turn_count h.board) (InFlight t op) (foresight_of c) (book_of c) c.seat c.hands.pairs
  stands_here = let P : Stage → Type 0 = λ s. Stands m turns s (foresight_of c) (book_of c) c.seat c.hands.pairs in subst P st k.stands

  pub nothing : HoldsNone c.seat c.hands.pairs
  nothing = stands_here.1

  noted_flight : Holds (meaning (script_of h)) (book_of c) (caller c.seat) (flying t (foresight_of c) op)
  noted_flight = k.lawful.records (caller c.seat) (flying t (foresight_of c) op) stands_here.0

  fits : Fits (meaning (script_of h)).shape op
  fits = k.script_kept.fits t (replies (entries_of c t)) op (noted_flight.flight op refl)

  shards_known : shards_in (meaning (script_of h)) (turn_count h.board) ≡ h.sizes.shards
  shards_known = row.shards_known m h.sizes.tables n turns k.tables_are k.some_shards k.few_turns k.turns_are op fits

  pub few : (h.sizes.shards ≤ 8) × (op.table ≤ 57)
  few = (k.few_shards, row.few_table m h.sizes.tables n turns k.tables_are k.some_shards k.few_turns k.turns_are op fits)

  pub place_few : place h.sizes.shards op ≤ 57
  place_few = omega (arith, row.near_row m h.sizes.tables n turns k.tables_are k.some_shards k.few_turns k.turns_are op fits (suc (place n op)) (span n op) refl refl, k.few_turns)

  module _ (first many : ℕ) (fe : first ≡ suc (place h.sizes.shards op)) (me : many ≡ span h.sizes.shards op) where
    near : first + many ≤ turn_count h.board
    near = row.near_row m h.sizes.tables n turns k.tables_are k.some_shards k.few_turns k.turns_are op fits first many fe me

    pub few_turns : first + many ≤ 57
    few_turns = omega (arith, near, k.few_turns)

    module _ (set : ℕ) (is : set ≡ 2 ^ (first + many) - 2 ^ first) where
      bits_row : (u : ℕ) → bit_at set u ≡ 1 → (first ≤ u) × (u < first + many)
      bits_row u e = in_row first many u (ap (λ (x : ℕ). bit_at x u) (sym is) ∙ e)

      row_bit : (u : ℕ) → first ≤ u → u < first + many → bit_at set u ≡ 1
      row_bit u from below = ap (λ (x : ℕ). bit_at x u) is ∙ bit_inside first many u from below

      pub can_ask : (u : ℕ) → bit_at set u ≡ 1 → (0 < u) × (u < turn_count h.board) × (held c.seat u ≡ None)
      can_ask u e = let r : (first ≤ u) × (u < first + many) = bits_row u e in (omega (arith, r.0, fe), omega (arith, r.1, near), nothing.free u)

      pub ask_room : length c.hands.pairs + length (bits_of set (turn_count h.board)) ≤ c.hands.room
      ask_room =
          let none : (u : ℕ) → in_hands (content_of {S = S}) c.hands.pairs u ≡ None = λ u. ap (λ (l : List (ℕ × Held S)). in_hands (content_of {S = S}) l u) nothing.no_pairs in
          omega (arith, pairs_room turns set c.hands.pairs k.once (λ u x e. absurd (none-some x (sym (none u) ∙ e))) (λ u e. none u), k.few_turns, k.hands_room)

      pub asks_some : 0 < set
      asks_some = let P : ℕ → Type 0 = λ x. 0 < x in subst P (sym is) (some_set first many (row.some_row n op k.some_shards first many fe me))

      -- ---- some turn was found taken
      pub busy_turn : (u : ℕ) → bit_at set u ≡ 1 → (j : ℕ) × (u ≡ suc j) × IsTurnOf h.sizes.shards op j
      busy_turn u e = let r : (first ≤ u) × (u < first + many) = bits_row u e in row.of_row n op k.some_shards first many fe me u r.0 r.1

      pub turn_bit : (j : ℕ) → IsTurnOf h.sizes.shards op j → bit_at set (suc j) ≡ 1
      turn_bit j i = let r : (first ≤ suc j) × (suc j < first + many) = row.to_row n op k.some_shards first many fe me j i in row_bit (suc j) r.0 r.1

      -- ---- the turns were taken
      module _ (q : SeatOf S) (xs : List (ℕ × Held S)) (v : SameNote c.seat q) (g : GainedAll c.seat q content_of (turn_count h.board) set c.hands.pairs xs) (told : Tells (Tied meaning) (turn_count h.board) q) where
        abbrev J : List Event
        J = told.tied.book.journal

        only : xs ≡ g.new
        only = g.added ∙ ap (λ (l : List (ℕ × Held S)). l ++ g.new) nothing.no_pairs

        once_taken : Once (content_of {S = S}) xs
        once_taken = let P : List (ℕ × Held S) → Type 0 = λ l. Once (content_of {S = S}) l in subst P (sym only) g.once

        -- what is in the hands is what is held
        hold : (u : ℕ) → in_hands (content_of {S = S}) xs u ≡ held q u
        hold u =
            let P : List (ℕ × Held S) → Type 0 = λ l. in_hands (content_of {S = S}) l u ≡ held q u in
            subst P (sym only) (two (bit_at set u) (λ x. in_hands (content_of {S = S}) g.new u ≡ held q u) (bit_at-lt set u)
            (λ z. (g.others u z).1 ∙ sym ((g.others u z).0 ∙ nothing.free u))
            (λ z. (g.here u z).2 ∙ sym (g.here u z).1))

        -- a turn that is held is one of the operation's
        held_mine : (j : ℕ) (x : Content S) → held q (suc j) ≡ Some x → IsTurnOf h.sizes.shards op j
        held_mine j x e =
            let bit : bit_at set (suc j) ≡ 1 = two (bit_at set (suc j)) (λ b. b ≡ 1) (bit_at-lt set (suc j)) (λ z. absurd (none-some x (sym ((g.others (suc j) z).0 ∙ nothing.free (suc j)) ∙ e))) (λ z. refl) in
            let b : (i : ℕ) × (suc j ≡ suc i) × IsTurnOf n op i = busy_turn (suc j) bit in
            let same : b.0 ≡ j = omega (arith, b.1) in
            let P : ℕ → Type 0 = λ i. IsTurnOf n op i in
            subst P same b.2

        -- and each of these is held
        mine_held : (j : ℕ) → IsTurnOf h.sizes.shards op j → held q (suc j) ≡ None → ⊥
        mine_held j i e = let one : bit_at set (suc j) ≡ 1 = turn_bit j i in none-some (g.here (suc j) one).0 (sym e ∙ (g.here (suc j) one).1)

        ours : (j : ℕ) (x : Content S) → IsTurnOf h.sizes.shards op j → in_hands (content_of {S = S}) xs (suc j) ≡ Some x → IsShard (meaning (script_of h)) (turn_count h.board) J j x
        ours j x i e = shard_at meaning (script_of h) turns c.seat q k.noted v told j x (sym (hold (suc j)) ∙ e)

        there : (u : ℕ) → first ≤ u → u < first + many → in_hands (content_of {S = S}) xs u ≡ None → ⊥
        there u from below e = let one : bit_at set u ≡ 1 = row_bit u from below in none-some (g.here u one).0 (sym e ∙ hold u ∙ (g.here u one).1)

        finds : Finds (meaning (script_of h)) (book_of c) told.tied.book (caller c.seat) (caller_count c.seat)
        finds = finds_book meaning (script_of h) turns c.seat q k.noted v told

        flight_found : Holds (meaning (script_of h)) told.tied.book (caller c.seat) (flying t (foresight_of c) op)
        flight_found = finds.lawful.records (caller c.seat) (flying t (foresight_of c) op) (sym finds.since.own ∙ stands_here.0)

        pub can_work : CanWorkIn op first many xs
        can_work = row.can_work m turns n k.script_kept shards_known k.some_shards op fits first many fe me few_turns xs once_taken told.tied.book finds.lawful ours there t flight_found.is_open (flight_found.flight op refl)

        -- ---- the operation was done
        module _ (ys : List (ℕ × Held S)) (answer : Value) (w : HasWorkedIn op first many xs ys answer) where
          once_worked : Once (content_of {S = S}) ys
          once_worked = row.once_worked m turns n k.script_kept shards_known k.some_shards op fits first many fe me few_turns xs once_taken told.tied.book finds.lawful ours there ys answer w

          each_turn : (j : ℕ) → ChangedBy op (held q (suc j)) (in_hands (content_of {S = S}) ys (suc j))
          each_turn j =
              let P : Option (Content S) → Type 0 = λ o. ChangedBy op o (in_hands (content_of {S = S}) ys (suc j)) in
              elim (turn_or_not n op j) [
                | inl i ↦ subst P (hold (suc j)) (row.changed m turns n k.script_kept shards_known k.some_shards op fits first many fe me few_turns xs once_taken told.tied.book finds.lawful ours there ys answer w j i)
                | inr apart ↦
                    let none : held q (suc j) ≡ None = free (held q (suc j)) refl apart in
                    let Q : Option (Content S) → Type 0 = λ o. ChangedBy op None o in
                    let after : in_hands (content_of {S = S}) ys (suc j) ≡ None = row.others m turns n k.script_kept shards_known k.some_shards op fits first many fe me few_turns xs once_taken told.tied.book finds.lawful ours there ys answer w j apart ∙ hold (suc j) ∙ none in
                    subst P (sym none) (subst Q (sym after) tt)
              ]
            where
              free : (o : Option (Content S)) → held q (suc j) ≡ o → (IsTurnOf h.sizes.shards op j → ⊥) → held q (suc j) ≡ None
              free None e apart = e
              free (Some x) e apart = absurd (apart (held_mine j x e))

          at_shards : (j : ℕ) → IsTurnOf h.sizes.shards op j → IsTurnOf (shards_in (meaning (script_of h)) (turn_count h.board)) op j
          at_shards j i = let P : ℕ → Type 0 = λ a. IsTurnOf a op j in subst P (sym shards_known) i

          was_done : WasDone (meaning (script_of h)) (turn_count h.board) op answer (held q) (in_hands content_of ys)
          was_done = record {
            no_book = (g.others 0 (ap (λ (x : ℕ). bit_at x 0) is ∙ bit_at_mask_below first (first + many) 0 (omega (arith, fe)))).0 ∙ nothing.free 0;
            each = each_turn;
            mine = λ j x e. at_shards j (held_mine j x e);
            all = λ j e i. (let P : ℕ → Type 0 = λ a. IsTurnOf a op j in mine_held j (subst P shards_known i) e);
            settled = λ K shares. row.reply_at m turns n k.script_kept shards_known k.some_shards op fits first many fe me few_turns xs once_taken told.tied.book finds.lawful ours there ys answer w K (λ j d r e i. shares j d r (sym (hold (suc j)) ∙ e));
          }

          -- the caller has the operation's turns, with what the operation made of them
          module _ (seat : IsSeatOf h.board q) (hands : HandsView (Held S)) (pairs : hands.pairs ≡ ys) (reserved : hands.room ≡ c.hands.room) where
            abbrev later : Caller S
            later = record { seat = q; number = c.number; stage = Applied t op answer; hands = hands }

            done_here : WasDone (meaning (script_of h)) (turn_count h.board) op answer (held q) (in_hands content_of hands.pairs)
            done_here = let P : List (ℕ × Held S) → Type 0 = λ l. WasDone m turns op answer (held q) (in_hands content_of l) in subst P (sym pairs) was_done

            pub applied_caller : IsCallerOf meaning h (record { seat = q; number = c.number; stage = Applied t op answer; hands = hands })
            applied_caller =
                let P : List (ℕ × Held S) → Type 0 = λ l. Once (content_of {S = S}) l in
                caller_on meaning h c k later seat v refl reserved (subst P (sym pairs) once_worked) (foresight_of c) (ap (record_of (book_of c)) v.caller_is ∙ stands_here.0, done_here)

            pub applied_at : OnFlight c.stage (AppliedAt (meaning (script_of h)) c (record { seat = q; number = c.number; stage = Applied t op answer; hands = hands }) (turn_count h.board) answer)
            applied_at =
                let P : Stage → Type 0 = λ s. OnFlight s (AppliedAt m c later turns answer) in
                subst P (sym st) (record {
                  rule = is_tied meaning (script_of h) turns c.seat q k.noted v told (ap (λ (i : TableId). i.slots) seat.placed.of_table);
                  done = done_here;
                  stage_is = refl;
                  foresight_still = ap (λ (x : Option (Content S)). foresight_in (record_of (book_in x) c.number)) v.note_is;
                  note_still = v.note_is;
                  given_still = v.given_is;
                  change_still = v.change_is;
                  lost_still = g.lost_is;
                  asks_more = g.asks_is;
                  givings_still = g.givings_is;
                })
