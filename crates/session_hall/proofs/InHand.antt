-- What is in a caller's hands while it keeps the book, and when an operation was done there.
use Rattle.std.proofs.Common.{◌≡◌, ℕ, zero, suc, ◌<◌, ◌≤◌, List, Option, Some, None, refl, sym, ◌∙◌, ap, subst, arith}
use Rattle.std.proofs.lemmas.Option.{none-some}
use Rattle.session_values.specs.Tables.{Container}
use Rattle.session_journal.specs.Script.{Meaning}
use Rattle.admission_book.specs.Book.{Book, record_of}
use Rattle.admission_book.specs.Methods.{BookView}
use Rattle.turn_board.specs.Boards.{SameNote, caller, caller_count, held, note}
use Rattle.turn_board.specs.Hands.{HandsView, Once, in_hands, put_back}
use Rattle.turn_board.specs.Maps.{SameTurns}
use Rattle.turn_board.specs.Passes.{IsSeated}
use Rattle.turn_board.proofs.Fills.{after-zero}
use Rattle.turn_board.proofs.Returns.{held-near}
use Rattle.hall_rule.specs.declared.held.Held.{Held}
use Rattle.hall_rule.specs.declared.held.Held.TheVariants as value
use Rattle.hall_rule.specs.Contents.{Content, Register, Shard, needed}
use Rattle.hall_rule.specs.Shards.{content_of}
use Rattle.session_hall.specs.declared.caller.Caller.{Caller}
use Rattle.session_hall.specs.declared.holding.Holding.{Holding}
use Rattle.session_hall.specs.declared.stage.Stage.{Stage}
use Rattle.session_hall.specs.Callers.{book_in, book_of}
use Rattle.session_hall.specs.Findings.{Finds}
use Rattle.session_hall.specs.Holdings.{IsHoldingWith, IsKeeperIn, IsKept, StandsKept, book_at, present_book}
use Rattle.session_hall.specs.Names.{HallId}
use Rattle.session_hall.specs.Stages.{SeatOf, foresight_in}
use Rattle.session_hall.proofs.Pairs.{zero_in}

-- the book in hand is changed, and no turn more or less is in hand
pub turns_still : {S : Type 0} (old : ℕ → Option (Content S)) (b d : BookView S) (xs : List (ℕ × Held S)) → SameTurns old (put_back content_of (value.Register b) xs) → SameTurns old (put_back content_of (value.Register d) xs)
turns_still {S} old b d xs s = (forth, back)
  where
    forth : (u : ℕ) → old u ≡ None → put_back content_of (value.Register d) xs u ≡ None
    forth zero e = absurd (none-some (content_of (value.Register b)) (sym (s.0 0 e)))
    forth (suc j) e = s.0 (suc j) e

    back : (u : ℕ) → put_back content_of (value.Register d) xs u ≡ None → old u ≡ None
    back zero e = absurd (none-some (content_of (value.Register d)) (sym e))
    back (suc j) e = s.1 (suc j) e

-- ---- a holding that keeps the book
-- what is so of the book in hand
pub kept_keeper : {S : Type 0} (meaning : S → Meaning) (p : HallId) (script : S) (h : Holding S) (b : BookView S) → h.book ≡ Some b → IsHoldingWith meaning p script h.caller h.book → IsKeeperIn meaning p script h.caller b
kept_keeper {S} meaning p script h b is k = let P : Option (BookView S) → Type 0 = λ o. IsHoldingWith meaning p script h.caller o in subst P is k

pub kept_some : {S : Type 0} (o : Option (BookView S)) → IsKept o → (b : BookView S) × (o ≡ Some b)
kept_some (Some b) k = (b, refl)
kept_some None k = absurd k

pub kept_book : {S : Type 0} (h : Holding S) (b : BookView S) → h.book ≡ Some b → present_book h ≡ b.book
kept_book {S} h b is = ap (λ (o : Option (BookView S)). book_at o (book_of h.caller)) is

-- what is so of the book in hand is so of the one that the holding works on
pub with_book : {S : Type 0} (h : Holding S) (b : BookView S) → h.book ≡ Some b → (P : Option (BookView S) → Type 0) → P (Some b) → P h.book
with_book h b is P x = subst P (sym is) x

-- ---- the same book is kept behind another seat, with other hands
module _ {S : Type 0} (meaning : S → Meaning) (p : HallId) (script : S) (c : Caller S) (b : BookView S) (k : IsKeeperIn meaning p script c b) where
  -- the turns in hand are those that are held
  pub free_held : (u : ℕ) → in_hands content_of c.hands.pairs u ≡ None → 0 < u → held c.seat u ≡ None
  free_held u e some = k.same_turns.1 u (after-zero content_of (value.Register b) c.hands.pairs u some ∙ e)

  pub near_held : (u : ℕ) (x : Content S) → in_hands content_of c.hands.pairs u ≡ Some x → u < p.board.slots
  near_held zero x e = absurd (none-some x (sym (zero_in c.hands.pairs k.once) ∙ e))
  near_held (suc j) x e = go (held c.seat (suc j)) refl
    where
      go : (o : Option (Content S)) → held c.seat (suc j) ≡ o → suc j < p.board.slots
      go None z = absurd (none-some x (sym (k.same_turns.0 (suc j) z) ∙ e))
      go (Some y) z = held-near c.seat.pass.token.me.0 p.board.slots (suc j) y k.seat.placed.counts z

  pub keeper_on : (q : SeatOf S) (hands : HandsView (Held S)) (stage : Stage) → IsSeated p.board q.pass.token → SameNote c.seat q → held q 0 ≡ held c.seat 0 → hands.room ≡ c.hands.room → Once content_of hands.pairs
      → ((j : ℕ) (y : Container) (room : ℕ) → held q (suc j) ≡ Some (Shard y room) → needed (meaning script) p.board.slots j ≤ room)
      → SameTurns (held q) (put_back content_of (value.Register b) hands.pairs)
      → StandsKept meaning p.board.slots stage (foresight_in (record_of b.book c.number)) b q hands.pairs
      → IsKeeperIn meaning p script (record { seat = q; number = c.number; stage = stage; hands = hands }) b
  keeper_on q hands stage seat v register reserved once rooms same stands =
      let noted : book_of c ≡ book_in (note q) = ap book_in (sym v.note_is) in
      record {
        seat = seat;
        number_is = v.caller_is ∙ k.number_is;
        caller_count_is = v.caller_count_is ∙ k.caller_count_is;
        noted = v.note_is ∙ k.noted ∙ ap (λ (w : Book). Some (Register script w)) noted;
        script_kept = k.script_kept;
        tables_are = k.tables_are;
        some_shards = k.some_shards;
        few_shards = k.few_shards;
        turns_are = k.turns_are;
        few_turns = k.few_turns;
        hands_room = omega (arith, k.hands_room, reserved);
        once = once;
        script_is = k.script_is;
        lawful = k.lawful;
        found = k.found;
        here = register ∙ k.here;
        finds = (let P : Book → ℕ → ℕ → Type 0 = λ w n m. Finds (meaning script) w k.found n m in
            let P1 : Book → Type 0 = λ w. P w (caller c.seat) (caller_count c.seat) in
            let P2 : ℕ → Type 0 = λ n. P (book_in (note q)) n (caller_count c.seat) in
            let P3 : ℕ → Type 0 = λ m. P (book_in (note q)) (caller q) m in
            subst P3 (sym v.caller_count_is) (subst P2 (sym v.caller_is) (subst P1 noted k.finds)));
        rooms = rooms;
        same_turns = same;
        stands = stands;
      }
