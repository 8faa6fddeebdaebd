-- Turns are taken while the book is in hand.
use Rattle.std.proofs.Common.{◌≡◌, ◌≢◌, ℕ, zero, suc, ◌+◌, ◌<◌, ◌≤◌, List, [], ◌++◌, length, ◌⊎◌, inl, inr, Option, Some, None, append-nil, refl, sym, ◌∙◌, ap, subst, arith}
use Rattle.std.proofs.lemmas.Bool.{cases_eq}
use Rattle.std.proofs.lemmas.Nat.Bits.{bit_at-lt, bit_at-zero}
use Rattle.std.proofs.lemmas.Option.{none-some, same_Some}
use Rattle.std.specs.Int.{bit_at}
use Rattle.session_values.proofs.Numbers.{one_zero}
use Rattle.session_values.specs.Tables.{Container}
use Rattle.session_journal.specs.Script.{Meaning}
use Rattle.session_values.specs.declared.op.Op.{Op}
use Rattle.admission_book.specs.Book.{Book, IsFree, Serving, record_of}
use Rattle.admission_book.proofs.Records.{within}
use Rattle.admission_book.specs.Methods.{BookView}
use Rattle.turn_board.specs.declared.taken.TookAll.{TookAll}
use Rattle.turn_board.specs.declared.taken.TookAll.TheVariants as all
use Rattle.turn_board.specs.Boards.{AnsweredAll, GainedAll, MissedAll, SameNote, Tells, asks, caller, caller_count, givings, held, lost}
use Rattle.turn_board.specs.Hands.{HandsView, Once, in_hands, put_back}
use Rattle.turn_board.specs.Maps.{SameTurns, bits_of}
use Rattle.turn_board.specs.Passes.{IsSeated}
use Rattle.turn_board.proofs.Rows.{two}
use Rattle.turn_board.proofs.Several.{in-end}
use Rattle.hall_rule.specs.declared.held.Held.{Held}
use Rattle.hall_rule.specs.declared.held.Held.TheVariants as value
use Rattle.hall_rule.specs.Contents.{Content, IsShard, Register, Shard, needed, share}
use Rattle.hall_rule.specs.Law.{same_book, same_room, same_script}
use Rattle.hall_rule.specs.Shards.{content_of}
use Rattle.hall_rule.specs.Tie.{Moves, Tied}
use Rattle.session_hall.specs.declared.caller.Caller.{Caller}
use Rattle.session_hall.specs.declared.stage.Stage.{Stage}
use Rattle.session_hall.specs.declared.stage.Stage.TheVariants.{Serving as Serves}
use Rattle.session_hall.specs.Holdings.{IsKeeperIn, StandsKept}
use Rattle.session_hall.specs.OnShards.{IsMissing, TakesSet}
use Rattle.session_hall.specs.Names.{HallId}
use Rattle.session_hall.specs.Stages.{SeatOf, foresight_in, waiting}
use Rattle.session_hall.proofs.Finding.{shard_at}
use Rattle.session_hall.proofs.InHand.{free_held, keeper_on, near_held}
use Rattle.session_hall.proofs.Pairs.{in_front, once_append, pairs_room}

-- ---- whether a set has turns
empty_or : (set : ℕ) → (set ≡ 0) ⊎ (0 < set)
empty_or set = elim (cases_eq set 0) [
  | inl e ↦ inl e
  | inr n ↦ inr (omega (arith, n))
]

module _ {S : Type 0} (meaning : S → Meaning) (p : HallId) (script : S) (c : Caller S) (b : BookView S) (k : IsKeeperIn meaning p script c b) (t : ℕ) (st : c.stage ≡ Serves t) where
  abbrev m : Meaning
  m = meaning script

  abbrev turns : ℕ
  turns = p.board.slots

  abbrev xs : List (ℕ × Held S)
  xs = c.hands.pairs

  stands_here : StandsKept meaning p.board.slots (Serves t) (foresight_in (record_of b.book c.number)) b c.seat c.hands.pairs
  stands_here = let P : Stage → Type 0 = λ s. StandsKept meaning p.board.slots s (foresight_in (record_of b.book c.number)) b c.seat c.hands.pairs in subst P st k.stands

  pub own_record : record_of b.book (caller c.seat) ≡ Some (waiting t (foresight_in (record_of b.book c.number)))
  own_record = stands_here.0

  pub may_give : Moves meaning p.board.slots (caller c.seat) (held c.seat) (put_back content_of (value.Register b) c.hands.pairs)
  may_give = stands_here.1

  -- the counted book is the one that was found
  found_is : may_give.before ≡ k.found
  found_is = same_book may_give.script script may_give.before k.found (same_Some _ _ (sym may_give.was ∙ k.here))

  found_script : may_give.script ≡ script
  found_script = same_script may_give.script script may_give.before k.found (same_Some _ _ (sym may_give.was ∙ k.here))

  -- there is a record for each caller
  pub records_are : length b.book.records ≡ caller_count c.seat
  records_are =
      let e : may_give.now ≡ b.book = same_book may_give.script b.script may_give.now b.book (same_Some _ _ (sym may_give.is)) in
      ap (λ (w : Book). length w.records) (sym e) ∙ may_give.callers ∙ ap (λ (w : Book). length w.records) found_is ∙ k.finds.callers_are

  -- where one caller serves, no other ticket is open
  pub alone_free : (op : Op) → p.callers ≡ 1 → IsFree b.book t op
  alone_free op one d s e older =
      let w : Serving = waiting t (foresight_in (record_of b.book c.number)) in
      let near : d < length b.book.records = within b.book.records d s e in
      let mine : caller c.seat < length b.book.records = within b.book.records (caller c.seat) w own_record in
      let same : d ≡ caller c.seat = omega (arith, near, mine, records_are, k.caller_count_is, one) in
      let is : s ≡ w = same_Some s w (sym e ∙ ap (record_of b.book) same ∙ own_record) in
      let ticket : s.ticket ≡ t = ap (λ (x : Serving). x.ticket) is in
      absurd (omega (arith, ticket, older))

  module _ (first end set : ℕ) (mi : IsMissing c.hands.pairs first end set) (low : 0 < first) (near : end ≤ p.board.slots) where
    pub can_ask : (u : ℕ) → bit_at set u ≡ 1 → (0 < u) × (u < p.board.slots) × (held c.seat u ≡ None)
    can_ask u e =
        let z : (first ≤ u) × (u < end) × (in_hands content_of xs u ≡ None) = mi.each u e in
        let some : 0 < u = omega (arith, z.0, low) in
        (some, omega (arith, z.1, near), free_held meaning p script c b k u z.2 some)

    pub ask_room : length c.hands.pairs + length (bits_of set p.board.slots) ≤ c.hands.room
    ask_room = omega (arith, pairs_room turns set xs k.once (near_held meaning p script c b k) (λ u e. (mi.each u e).2), k.few_turns, k.hands_room)

    module _ (q : SeatOf S) (hands : HandsView (Held S)) (seat : IsSeated p.board q.pass.token) (v : SameNote c.seat q) (reserved : hands.room ≡ c.hands.room) where
      -- ---- some turn was found taken
      pub record FoundBusy (u : ℕ) : Type 0 where
        pub still : hands.pairs ≡ c.hands.pairs
        pub missed : MissedAll c.seat q set u
        pub several : caller_count c.seat ≢ 1
        pub told : Tells (Tied meaning) p.board.slots q

      pub found_busy : (u : ℕ) → TakesSet meaning p.board.slots c.seat q set c.hands.pairs hands.pairs (all.Busy u) → FoundBusy u
      found_busy u tk = go (empty_or set)
        where
          not_here : all.Busy u ≡ all.Here → ⊥
          not_here e = cc

          go : (set ≡ 0) ⊎ (0 < set) → FoundBusy u
          go (inl e) = absurd (not_here (tk.0 e).0)
          go (inr l) = let a : AnsweredAll content_of (Tied meaning) turns c.seat q set xs hands.pairs (all.Busy u) = tk.1 l in record { still = a.0; missed = a.1; several = a.2; told = a.3 }

      pub busy_keeper : (u : ℕ) → FoundBusy u → IsKeeperIn meaning p script (record { seat = q; number = c.number; stage = c.stage; hands = hands }) b
      busy_keeper u f =
          let same : held q ≡ held c.seat = (λ i w. f.missed.held_is w i) in
          let pairs : c.hands.pairs ≡ hands.pairs = sym f.still in
          let P : List (ℕ × Held S) → Type 0 = λ l. Once content_of l in
          let R : (ℕ → Option (Content S)) → Type 0 = λ o. (j : ℕ) (y : Container) (room : ℕ) → o (suc j) ≡ Some (Shard y room) → needed m turns j ≤ room in
          let T : (ℕ → Option (Content S)) → Type 0 = λ o. SameTurns o (put_back content_of (value.Register b) c.hands.pairs) in
          let T2 : List (ℕ × Held S) → Type 0 = λ l. SameTurns (held q) (put_back content_of (value.Register b) l) in
          let M : (ℕ → Option (Content S)) → Type 0 = λ o. Moves meaning turns (caller c.seat) o (put_back content_of (value.Register b) c.hands.pairs) in
          let M2 : List (ℕ × Held S) → Type 0 = λ l. Moves meaning turns (caller c.seat) (held q) (put_back content_of (value.Register b) l) in
          let M3 : ℕ → Type 0 = λ n. Moves meaning turns n (held q) (put_back content_of (value.Register b) hands.pairs) in
          let Q : Stage → Type 0 = λ s. StandsKept meaning turns s (foresight_in (record_of b.book c.number)) b q hands.pairs in
          keeper_on meaning p script c b k q hands c.stage seat v (f.missed.held_is 0) reserved (subst P pairs k.once) (subst R (sym same) k.rooms) (subst T2 pairs (subst T (sym same) k.same_turns))
          (subst Q (sym st) (ap (record_of b.book) v.caller_is ∙ own_record, subst M3 (sym v.caller_is) (subst M2 pairs (subst M (sym same) may_give))))

      -- ---- the turns were taken
      pub record TookTurns : Type 0 where
        pub new : List (ℕ × Held S)
        pub added : hands.pairs ≡ c.hands.pairs ++ new
        pub once : Once content_of new
        pub here : (u : ℕ) → bit_at set u ≡ 1 → (x : Content S) × (held q u ≡ Some x) × (in_hands content_of new u ≡ Some x)
        pub shard : (j : ℕ) (x : Content S) → bit_at set (suc j) ≡ 1 → held q (suc j) ≡ Some x → IsShard (meaning script) p.board.slots k.found.journal j x
        pub others : (u : ℕ) → bit_at set u ≡ 0 → (held q u ≡ held c.seat u) × (in_hands content_of new u ≡ None)
        pub lost_is : (u : ℕ) → lost q u ≡ lost c.seat u
        pub asks_most : (asks q ≡ asks c.seat) ⊎ (asks q ≡ asks c.seat + 1)
        pub givings_is : givings q ≡ givings c.seat

      no_bit : set ≡ 0 → (u : ℕ) → bit_at set u ≡ 1 → ⊥
      no_bit e u h = one_zero (sym h ∙ ap (λ (s : ℕ). bit_at s u) e ∙ bit_at-zero u)

      bit_zero : bit_at set 0 ≡ 0
      bit_zero = two (bit_at set 0) (λ x. x ≡ 0) (bit_at-lt set 0) (λ z. refl) (λ z. absurd (omega (arith, (can_ask 0 z).0)))

      module _ (g : GainedAll c.seat q content_of p.board.slots set c.hands.pairs hands.pairs) (told : Tells (Tied meaning) p.board.slots q) where
        tied_found : told.tied.book ≡ k.found
        tied_found = same_book told.tied.script script told.tied.book k.found (same_Some _ _ (sym told.tied.register ∙ told.own 0 (Register script k.found) ((g.others 0 bit_zero).0 ∙ k.here)))

        gained : TookTurns
        gained = record {
          new = g.new;
          added = g.added;
          once = g.once;
          here = g.here;
          shard = λ j x e h. let P : Book → Type 0 = λ w. IsShard m turns w.journal j x in subst P tied_found (shard_at meaning script turns c.seat q k.noted v told j x h);
          others = g.others;
          lost_is = g.lost_is;
          asks_most = inr g.asks_is;
          givings_is = g.givings_is;
        }

      pub took_turns : TakesSet meaning p.board.slots c.seat q set c.hands.pairs hands.pairs all.Here → TookTurns
      took_turns tk = go (empty_or set)
        where
          go : (set ≡ 0) ⊎ (0 < set) → TookTurns
          go (inl e) =
              let z : (◌≡◌ {A = TookAll} all.Here all.Here) × (q ≡ c.seat) × (hands.pairs ≡ c.hands.pairs) = tk.0 e in
              record {
                new = [];
                added = z.2 ∙ sym (append-nil c.hands.pairs);
                once = tt;
                here = λ u h. absurd (no_bit e u h);
                shard = λ j x h at. absurd (no_bit e (suc j) h);
                others = λ u h. (ap (λ (s : SeatOf S). held s u) z.1, refl);
                lost_is = λ u. ap (λ (s : SeatOf S). lost s u) z.1;
                asks_most = inl (ap (λ (s : SeatOf S). asks s) z.1);
                givings_is = ap (λ (s : SeatOf S). givings s) z.1;
              }
          go (inr l) = let a : AnsweredAll content_of (Tied meaning) turns c.seat q set xs hands.pairs all.Here = tk.1 l in gained a.0 a.1

      module _ (g : TookTurns) where
        -- a turn that was in hand, and one that was taken
        was_in : (u : ℕ) → bit_at set u ≡ 0 → in_hands content_of hands.pairs u ≡ in_hands content_of c.hands.pairs u
        was_in u e = ap (λ (l : List (ℕ × Held S)). in_hands content_of l u) g.added ∙ in_front xs g.new u (g.others u e).1

        now_in : (u : ℕ) → bit_at set u ≡ 1 → in_hands content_of hands.pairs u ≡ in_hands content_of g.new u
        now_in u e = ap (λ (l : List (ℕ × Held S)). in_hands content_of l u) g.added ∙ in-end content_of xs g.new u (mi.each u e).2

        by_bit : (u : ℕ) (P : Type 0) → (bit_at set u ≡ 0 → P) → (bit_at set u ≡ 1 → P) → P
        by_bit u P a d = two (bit_at set u) (λ x. P) (bit_at-lt set u) a d

        register_still : held q 0 ≡ held c.seat 0
        register_still = (g.others 0 bit_zero).0

        once_now : Once content_of hands.pairs
        once_now =
            let P : List (ℕ × Held S) → Type 0 = λ l. Once content_of l in
            subst P (sym g.added) (once_append xs g.new k.once g.once (λ u x e. by_bit u (in_hands content_of xs u ≡ None) (λ z. absurd (none-some x (sym (g.others u z).1 ∙ e))) (λ z. (mi.each u z).2)))

        same_now : SameTurns (held q) (put_back content_of (value.Register b) hands.pairs)
        same_now = (forth, back)
          where
            forth : (u : ℕ) → held q u ≡ None → put_back content_of (value.Register b) hands.pairs u ≡ None
            forth zero e = absurd (none-some (Register script k.found) (sym e ∙ register_still ∙ k.here))
            forth (suc j) e = by_bit (suc j) (in_hands content_of hands.pairs (suc j) ≡ None)
                (λ z. was_in (suc j) z ∙ k.same_turns.0 (suc j) (sym (g.others (suc j) z).0 ∙ e))
                (λ z. absurd (none-some (g.here (suc j) z).0 (sym e ∙ (g.here (suc j) z).1)))

            back : (u : ℕ) → put_back content_of (value.Register b) hands.pairs u ≡ None → held q u ≡ None
            back zero e = absurd (none-some (content_of (value.Register b)) (sym e))
            back (suc j) e = by_bit (suc j) (held q (suc j) ≡ None)
                (λ z. (g.others (suc j) z).0 ∙ k.same_turns.1 (suc j) (sym (was_in (suc j) z) ∙ e))
                (λ z. absurd (none-some (g.here (suc j) z).0 (sym e ∙ now_in (suc j) z ∙ (g.here (suc j) z).2)))

        rooms_now : (j : ℕ) (y : Container) (room : ℕ) → held q (suc j) ≡ Some (Shard y room) → needed (meaning script) p.board.slots j ≤ room
        rooms_now j y room e = by_bit (suc j) (needed m turns j ≤ room)
            (λ z. k.rooms j y room (sym (g.others (suc j) z).0 ∙ e))
            (λ z. let s : IsShard m turns k.found.journal j (Shard y room) = g.shard j (Shard y room) z e in let r : room ≡ s.room = same_room {S = S} y s.container room s.room s.is in omega (arith, r, s.enough))

        held_now : (j : ℕ) (x : Content S) → in_hands content_of hands.pairs (suc j) ≡ Some x → (y : Container) × (room : ℕ) × (held q (suc j) ≡ Some (Shard y room)) × (x ≡ Shard (share (meaning may_give.script) p.board.slots may_give.now.journal j) room)
        held_now j x e = by_bit (suc j) ((y : Container) × (room : ℕ) × (held q (suc j) ≡ Some (Shard y room)) × (x ≡ Shard (share (meaning may_give.script) turns may_give.now.journal j) room))
            (λ z. let w : (y : Container) × (room : ℕ) × (held c.seat (suc j) ≡ Some (Shard y room)) × (x ≡ Shard (share (meaning may_give.script) turns may_give.now.journal j) room) = may_give.held j x (sym (was_in (suc j) z) ∙ e) in
            (w.0, w.1, (g.others (suc j) z).0 ∙ w.2, w.3))
            (λ z.
            let n : (y : Content S) × (held q (suc j) ≡ Some y) × (in_hands content_of g.new (suc j) ≡ Some y) = g.here (suc j) z in
            let is : n.0 ≡ x = same_Some n.0 x (sym n.2 ∙ sym (now_in (suc j) z) ∙ e) in
            let s : IsShard m turns k.found.journal j n.0 = g.shard j n.0 z n.1 in
            let free : share (meaning may_give.script) turns may_give.before.journal j ≡ share (meaning may_give.script) turns may_give.now.journal j = may_give.free j (mi.each (suc j) z).2 in
            let counted : s.container ≡ share (meaning may_give.script) turns may_give.before.journal j = s.share_is ∙ (λ i. share (meaning (sym found_script i)) turns (sym found_is i).journal j) in
            (s.container, s.room, n.1 ∙ ap Some s.is, sym is ∙ s.is ∙ ap (λ (y : Container). Shard y s.room) (counted ∙ free)))

        pub taken_moves : Moves meaning p.board.slots (caller c.seat) (held q) (put_back content_of (value.Register b) hands.pairs)
        taken_moves = record {
          script = may_give.script;
          before = may_give.before;
          now = may_give.now;
          was = register_still ∙ may_give.was;
          is = may_give.is;
          lawful = may_give.lawful;
          callers = may_give.callers;
          others = may_give.others;
          more = may_give.more;
          grows = may_give.grows;
          own = may_give.own;
          held = held_now;
          free = λ j e. by_bit (suc j) (share (meaning may_give.script) turns may_give.before.journal j ≡ share (meaning may_give.script) turns may_give.now.journal j)
              (λ z. may_give.free j (sym (was_in (suc j) z) ∙ e))
              (λ z. absurd (none-some (g.here (suc j) z).0 (sym e ∙ now_in (suc j) z ∙ (g.here (suc j) z).2)));
        }

        pub taken_keeper : IsKeeperIn meaning p script (record { seat = q; number = c.number; stage = Serves t; hands = hands }) b
        taken_keeper =
            let M : ℕ → Type 0 = λ n. Moves meaning turns n (held q) (put_back content_of (value.Register b) hands.pairs) in
            keeper_on meaning p script c b k q hands (Serves t) seat v register_still reserved once_now rooms_now same_now (ap (record_of b.book) v.caller_is ∙ own_record, subst M (sym v.caller_is) taken_moves)

        -- all turns are in hand
        pub all_taken : (u : ℕ) → first ≤ u → u < end → in_hands content_of hands.pairs u ≡ None → ⊥
        all_taken u from below e = by_bit u ⊥
            (λ z. mi.rest u from below z (sym (was_in u z) ∙ e))
            (λ z. none-some (g.here u z).0 (sym e ∙ now_in u z ∙ (g.here u z).2))

        -- what was held is held, and what is new was missing
        pub held_still : (u : ℕ) (x : Content S) → held c.seat u ≡ Some x → held q u ≡ Some x
        held_still u x e = by_bit u (held q u ≡ Some x) (λ z. (g.others u z).0 ∙ e) (λ z. absurd (none-some x (sym (can_ask u z).2 ∙ e)))

        pub new_held : (u : ℕ) (x : Content S) → held q u ≡ Some x → held c.seat u ≡ None → (first ≤ u) × (u < end)
        new_held u x e none = by_bit u ((first ≤ u) × (u < end)) (λ z. absurd (none-some x (sym none ∙ sym (g.others u z).0 ∙ e))) (λ z. ((mi.each u z).0, (mi.each u z).1))
