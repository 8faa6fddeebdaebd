-- What a call says that does an operation in hand.
use Rattle.std.proofs.Common.{◌≡◌, ◌≢◌, ℕ, suc, ◌+◌, ◌<◌, ◌≤◌, List, length, Option, Some, None, refl, sym, ◌∙◌, ap, subst, arith}
use Rattle.std.proofs.lemmas.Option.{same_Some}
use Rattle.std.specs.Int.{bit_at}
use Rattle.session_values.specs.declared.op.Op.{Op}
use Rattle.session_values.specs.declared.value.Value.{Value}
use Rattle.session_values.specs.Dialogue.{Calls}
use Rattle.session_values.specs.Tables.{reply}
use Rattle.symbolic_ops.specs.declared.symbol.Symbol.{Symbol}
use Rattle.symbolic_ops.specs.Matching.{Matches}
use Rattle.session_journal.specs.EventsInTurn.{now}
use Rattle.session_journal.specs.Script.{Meaning}
use Rattle.admission_book.specs.Book.{Book, IsBlocker, IsFree, Serving, record_of}
use Rattle.admission_book.specs.Methods.{BookView}
use Rattle.admission_book.proofs.Records.{within}
use Rattle.turn_board.specs.Seated.{TableId}
use Rattle.turn_board.specs.declared.taken.TookAll.TheVariants as all
use Rattle.turn_board.specs.Boards.{SameNote, caller, caller_count, givings, held}
use Rattle.turn_board.specs.Hands.{HandsView, in_hands}
use Rattle.turn_board.specs.Maps.{bits_of}
use Rattle.turn_board.specs.Passes.{IsSeated}
use Rattle.hall_rule.specs.declared.held.Held.{Held}
use Rattle.hall_rule.specs.Contents.{Content, tables_after}
use Rattle.hall_rule.specs.Shards.{content_of}
use Rattle.hall_rule.specs.Turns.{IsTurnOf, place, span}
use Rattle.session_hall.specs.declared.caller.Caller.{Caller}
use Rattle.session_hall.specs.declared.holding.Holding.{Holding}
use Rattle.session_hall.specs.declared.on_shards.Found.{Found}
use Rattle.session_hall.specs.declared.stage.Stage.{Stage}
use Rattle.session_hall.specs.declared.stage.Stage.TheVariants.{Serving as Serves, Applied}
use Rattle.session_hall.specs.Callers.{book_in, book_of}
use Rattle.session_hall.specs.Calls.{MayCall}
use Rattle.session_hall.specs.HoldingCalls.{BusyKept, ByPresent, IsFreeKept, WorkedKept}
use Rattle.session_hall.specs.Holdings.{IsHoldingWith, IsKeeperIn, book_at, foresight_at, present_book}
use Rattle.session_hall.specs.OnShards.{AreHere, CanWorkFound, CanWorkHere, CanWorkIn, HasWorkedFound, HasWorkedIn, IsFound, IsMissing, TakesSet}
use Rattle.session_hall.specs.Names.{HallId}
use Rattle.session_hall.specs.Stages.{OnServing, SeatOf, foresight_in, waiting}
use Rattle.session_hall.proofs.Finding.{is_tied}
use Rattle.session_hall.proofs.InHand.{kept_book, kept_keeper, with_book}
use Rattle.session_hall.proofs.FoundInHand.{all_here, can_work_found, nothing_missing, worked_found}
use Rattle.session_hall.proofs.OnRow.{of_row, one_row}
use Rattle.session_hall.proofs.Taken.{missed_lost}
use Rattle.session_hall.proofs.TakenInHand as taken
use Rattle.session_hall.proofs.WorkInHand as work

module _ {S : Type 0} (meaning : S → Meaning) (p : HallId) (script : S) (h : Holding S) (b : BookView S) (is : h.book ≡ Some b) (kh : IsHoldingWith meaning p script h.caller h.book) (t : ℕ) (st : h.caller.stage ≡ Serves t) (op : Op) (may : ByPresent (meaning script) h (MayCall (foresight_at h) op)) where
  k : IsKeeperIn meaning p script h.caller b
  k = kept_keeper meaning p script h b is kh

  may_here : (now (meaning script) b.book.journal t ≡ Calls op) × Matches (foresight_in (record_of b.book h.caller.number)) op
  may_here =
      let P : Option (BookView S) → Stage → Type 0 = λ o s. OnServing s (λ u. MayCall (foresight_in (record_of (book_at o (book_of h.caller)) h.caller.number)) op (meaning script) (book_at o (book_of h.caller)) u) in
      let Q : Option (BookView S) → Type 0 = λ o. P o h.caller.stage in
      subst (P (Some b)) st (subst Q is may)

  -- nobody delays it
  pub free_here : IsFreeKept h op → IsFree b.book t op
  free_here free =
      let P : Stage → Type 0 = λ s. OnServing s (λ u. IsFree (present_book h) u op) in
      let F : Book → Type 0 = λ x. IsFree x t op in
      subst F (kept_book h b is) (subst P st free)

  -- ---- its turns
  pub few : (p.shards ≤ 8) × (op.table ≤ 57)
  few = work.few_row meaning p script h.caller b k t st op may_here.0

  pub place_few : place p.shards op ≤ 57
  place_few = omega (arith, work.near_row meaning p script h.caller b k t st op may_here.0 (suc (place p.shards op)) (span p.shards op) refl refl, k.few_turns)

  module _ (first many : ℕ) (fe : first ≡ suc (place p.shards op)) (me : many ≡ span p.shards op) where
    near : first + many ≤ p.board.slots
    near = work.near_row meaning p script h.caller b k t st op may_here.0 first many fe me

    pub few_turns : first + many ≤ 57
    few_turns = omega (arith, near, k.few_turns)

    low : 0 < first
    low = omega (arith, fe)

    module _ (set : ℕ) (mi : IsMissing h.caller.hands.pairs first (first + many) set) where
      pub can_ask : (u : ℕ) → bit_at set u ≡ 1 → (0 < u) × (u < p.board.slots) × (held h.caller.seat u ≡ None)
      can_ask = taken.can_ask meaning p script h.caller b k t st first (first + many) set mi low near

      pub ask_room : length h.caller.hands.pairs + length (bits_of set p.board.slots) ≤ h.caller.hands.room
      ask_room = taken.ask_room meaning p script h.caller b k t st first (first + many) set mi low near

      module _ (q : SeatOf S) (hands : HandsView (Held S)) (seat : IsSeated p.board q.pass.token) (v : SameNote h.caller.seat q) (reserved : hands.room ≡ h.caller.hands.room) where
        -- ---- a turn was found taken
        module _ (u : ℕ) (tk : TakesSet meaning p.board.slots h.caller.seat q set h.caller.hands.pairs hands.pairs (all.Busy u)) where
          busy : taken.FoundBusy meaning p script h.caller b k t st first (first + many) set mi low near q hands seat v reserved u
          busy = taken.found_busy meaning p script h.caller b k t st first (first + many) set mi low near q hands seat v reserved u tk

          pub busy_holding : IsHoldingWith meaning p script (record { seat = q; number = h.caller.number; stage = h.caller.stage; hands = hands }) h.book
          busy_holding =
              with_book h b is (λ o. IsHoldingWith meaning p script (record { seat = q; number = h.caller.number; stage = h.caller.stage; hands = hands }) o)
              (taken.busy_keeper meaning p script h.caller b k t st first (first + many) set mi low near q hands seat v reserved u busy)

          pub busy_kept : (ends n : ℕ) → BusyKept (meaning script) h (record { caller = record { seat = q; number = h.caller.number; stage = h.caller.stage; hands = hands }; book = h.book; ends = ends; entered = n }) p.shards op u
          busy_kept ends n =
              let z : (first ≤ u) × (u < first + many) × (in_hands content_of h.caller.hands.pairs u ≡ None) = mi.each u busy.missed.asked in
              let r : (j : ℕ) × (u ≡ suc j) × IsTurnOf p.shards op j = of_row p.shards op k.some_shards first many fe me u z.0 z.1 in
              record {
                still = refl;
                after = givings q;
                busy = record {
                  rule = is_tied meaning script p.board.slots h.caller.seat q k.noted v busy.told (ap (λ (i : TableId). i.slots) seat.placed.of_table);
                  rose = busy.missed.here;
                  lost_grows = missed_lost h.caller.seat q set u busy.missed;
                  several = busy.several;
                  asks_more = busy.missed.asks_is;
                  givings_is = refl;
                  change_still = v.change_is;
                  stage_still = refl;
                  foresight_still = ap (λ (x : Option (Content S)). foresight_in (record_of (book_in x) h.caller.number)) v.note_is;
                  note_still = v.note_is;
                  given_still = v.given_is;
                  held_still = busy.missed.held_is;
                  hands_still = busy.still;
                };
                place = r.0;
                turn_is = r.1;
                of_operation = r.2;
              }

        -- ---- the turns were taken
        module _ (tk : TakesSet meaning p.board.slots h.caller.seat q set h.caller.hands.pairs hands.pairs all.Here) where
          g : taken.TookTurns meaning p script h.caller b k t st first (first + many) set mi low near q hands seat v reserved
          g = taken.took_turns meaning p script h.caller b k t st first (first + many) set mi low near q hands seat v reserved tk

          abbrev mid : Caller S
          mid = record { seat = q; number = h.caller.number; stage = Serves t; hands = hands }

          k2 : IsKeeperIn meaning p script (record { seat = q; number = h.caller.number; stage = Serves t; hands = hands }) b
          k2 = taken.taken_keeper meaning p script h.caller b k t st first (first + many) set mi low near q hands seat v reserved g

          there : (u : ℕ) → first ≤ u → u < first + many → in_hands content_of hands.pairs u ≡ None → ⊥
          there = taken.all_taken meaning p script h.caller b k t st first (first + many) set mi low near q hands seat v reserved g

          pub can_work : CanWorkIn op first many hands.pairs
          can_work = work.can_work meaning p script mid b k2 t refl op may_here.0 first many fe me there

          module _ (later : HandsView (Held S)) (answer : Value) (w : HasWorkedIn op first many hands.pairs later.pairs answer) (same_room : later.room ≡ hands.room) (free : IsFree b.book t op) where
            pub worked_holding : IsHoldingWith meaning p script (record { seat = q; number = h.caller.number; stage = Applied t op answer; hands = later }) h.book
            worked_holding =
                with_book h b is (λ o. IsHoldingWith meaning p script (record { seat = q; number = h.caller.number; stage = Applied t op answer; hands = later }) o)
                (work.worked_keeper meaning p script mid b k2 t refl op may_here.0 first many fe me there later.pairs answer w free may_here.1 later refl same_room)

            pub worked_kept : (ends n : ℕ) → OnServing h.caller.stage (WorkedKept (meaning script) h (record { caller = record { seat = q; number = h.caller.number; stage = Applied t op answer; hands = later }; book = h.book; ends = ends; entered = n }) p.shards op answer)
            worked_kept ends n =
                let P : Stage → Type 0 = λ s. OnServing s (WorkedKept (meaning script) h (record { caller = record { seat = q; number = h.caller.number; stage = Applied t op answer; hands = later }; book = h.book; ends = ends; entered = n }) p.shards op answer) in
                let F : Book → Type 0 = λ x. IsFree x t op in
                let R : Book → Type 0 = λ x. reply (tables_after (meaning script) x.journal) op ≡ answer in
                let book : b.book ≡ present_book h = sym (kept_book h b is) in
                subst P (sym st) (record {
                  still = refl;
                  free = subst F book free;
                  reply_is = subst R book (work.reply_here meaning p script mid b k2 t refl op may_here.0 first many fe me there later.pairs answer w);
                  stage_is = refl;
                  note_still = v.note_is;
                  caller_still = v.caller_is;
                  given_still = v.given_is;
                  change_still = v.change_is;
                  lost_still = g.lost_is;
                  asks_most = g.asks_most;
                  givings_still = g.givings_is;
                  held_still = taken.held_still meaning p script h.caller b k t st first (first + many) set mi low near q hands seat v reserved g;
                  new_of_operation = λ j x e none.
                      let z : (first ≤ suc j) × (suc j < first + many) = taken.new_held meaning p script h.caller b k t st first (first + many) set mi low near q hands seat v reserved g (suc j) x e none in
                      let r : (i : ℕ) × (suc j ≡ suc i) × IsTurnOf p.shards op i = of_row p.shards op k.some_shards first many fe me (suc j) z.0 z.1 in
                      let same : r.0 ≡ j = omega (arith, r.1) in
                      let T : ℕ → Type 0 = λ i. IsTurnOf p.shards op i in
                      subst T same r.2;
                })

    -- ---- all its turns are in hand already
    pub can_work_here : CanWorkHere op first many h.caller.hands.pairs
    can_work_here = work.can_work_here meaning p script h.caller b k t st op may_here.0 first many fe me

    module _ (f : Found) (found : IsFound op first many h.caller.hands.pairs (Some f)) where
      pub can_found : CanWorkFound op h.caller.hands.pairs f
      can_found = can_work_found h.caller.hands.pairs op first many f found can_work_here

      here : AreHere h.caller.hands.pairs first many
      here = all_here h.caller.hands.pairs op first many (one_row p.shards op k.some_shards first many fe me) f found

      none_missing : IsMissing h.caller.hands.pairs first (first + many) 0
      none_missing = nothing_missing h.caller.hands.pairs first many here

      takes_none : TakesSet meaning p.board.slots h.caller.seat h.caller.seat 0 h.caller.hands.pairs h.caller.hands.pairs all.Here
      takes_none = (λ e. (refl, refl, refl), λ l. absurd (omega (arith, l)))

      same_note : SameNote h.caller.seat h.caller.seat
      same_note = record { caller_is = refl; note_is = refl; caller_count_is = refl; given_is = refl; change_is = refl }

      module _ (later : HandsView (Held S)) (answer : Value) (w : HasWorkedFound op h.caller.hands.pairs later.pairs f answer) (same_room : later.room ≡ h.caller.hands.room) (free : IsFree b.book t op) where
        worked : HasWorkedIn op first many h.caller.hands.pairs later.pairs answer
        worked = worked_found h.caller.hands.pairs op first many f found later.pairs answer w

        pub found_holding : IsHoldingWith meaning p script (record { seat = h.caller.seat; number = h.caller.number; stage = Applied t op answer; hands = later }) h.book
        found_holding = worked_holding 0 none_missing h.caller.seat h.caller.hands k.seat same_note refl takes_none later answer worked same_room free

        pub found_kept : (ends n : ℕ) → OnServing h.caller.stage (WorkedKept (meaning script) h (record { caller = record { seat = h.caller.seat; number = h.caller.number; stage = Applied t op answer; hands = later }; book = h.book; ends = ends; entered = n }) p.shards op answer)
        found_kept = worked_kept 0 none_missing h.caller.seat h.caller.hands k.seat same_note refl takes_none later answer worked same_room free
