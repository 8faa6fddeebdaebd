-- An operation is done on its shards in hand.
use Rattle.std.proofs.Common.{◌≡◌, ℕ, zero, suc, ◌+◌, ◌<◌, ◌≤◌, List, Some, None, refl, sym, ◌∙◌, ap, subst, arith}
use Rattle.std.proofs.lemmas.Option.{none-some}
use Rattle.session_values.specs.declared.op.Op.{Op}
use Rattle.session_values.specs.declared.value.Value.{Value}
use Rattle.session_values.specs.Dialogue.{Calls, replies}
use Rattle.session_values.specs.Tables.{Container, Fits, reply}
use Rattle.symbolic_ops.specs.Matching.{Matches}
use Rattle.session_journal.specs.EventsInTurn.{now}
use Rattle.session_journal.specs.Journal.{entries}
use Rattle.session_journal.specs.Script.{Meaning}
use Rattle.admission_book.specs.Book.{Holds, IsFree, record_of}
use Rattle.admission_book.specs.Methods.{BookView}
use Rattle.turn_board.specs.Boards.{caller, held}
use Rattle.turn_board.specs.Hands.{HandsView, Once, in_hands, put_back}
use Rattle.turn_board.specs.Maps.{SameTurns}
use Rattle.hall_rule.specs.declared.held.Held.{Held}
use Rattle.hall_rule.specs.declared.held.Held.TheVariants as value
use Rattle.hall_rule.specs.Contents.{Content, IsShard, Register, Shard, share, shards_in, tables_after}
use Rattle.hall_rule.specs.Shards.{content_of}
use Rattle.hall_rule.specs.Turns.{IsTurnOf, place, span}
use Rattle.session_hall.specs.declared.caller.Caller.{Caller}
use Rattle.session_hall.specs.declared.stage.Stage.TheVariants.{Serving as Serves, Applied}
use Rattle.session_hall.specs.Holdings.{IsKeeperIn, IsWorked}
use Rattle.session_hall.specs.Names.{HallId}
use Rattle.session_hall.specs.OnShards.{CanWorkHere, CanWorkIn, HasWorkedIn}
use Rattle.session_hall.specs.Stages.{foresight_in, waiting}
use Rattle.session_hall.proofs.Entering.{worked_free}
use Rattle.session_hall.proofs.InHand.{keeper_on}
use Rattle.session_hall.proofs.Keeping.{shard_in_hand}
use Rattle.session_hall.proofs.OnRow as row
use Rattle.session_hall.proofs.TakenInHand.{may_give, own_record}

module _ {S : Type 0} (meaning : S → Meaning) (p : HallId) (script : S) (c : Caller S) (b : BookView S) (k : IsKeeperIn meaning p script c b) (t : ℕ) (st : c.stage ≡ Serves t) (op : Op) (calls : now (meaning script) b.book.journal t ≡ Calls op) where
  abbrev turns : ℕ
  turns = p.board.slots

  abbrev xs : List (ℕ × Held S)
  xs = c.hands.pairs

  pub fits : Fits (meaning script).shape op
  fits = k.script_kept.fits t (replies (entries b.book.journal t)) op calls

  pub shards_known : shards_in (meaning script) p.board.slots ≡ p.shards
  shards_known = row.shards_known (meaning script) p.tables p.shards turns k.tables_are k.some_shards k.few_turns k.turns_are op fits

  pub few_row : (p.shards ≤ 8) × (op.table ≤ 57)
  few_row = (k.few_shards, row.few_table (meaning script) p.tables p.shards turns k.tables_are k.some_shards k.few_turns k.turns_are op fits)

  pub near_row : (first many : ℕ) → first ≡ suc (place p.shards op) → many ≡ span p.shards op → first + many ≤ p.board.slots
  near_row first many fe me = row.near_row (meaning script) p.tables p.shards turns k.tables_are k.some_shards k.few_turns k.turns_are op fits first many fe me

  -- what is in hand is the part of the tables after the journal in hand
  ours : (j : ℕ) (x : Content S) → IsTurnOf p.shards op j → in_hands content_of c.hands.pairs (suc j) ≡ Some x → IsShard (meaning script) p.board.slots b.book.journal j x
  ours j x i e =
      let q : (y : Container) × (r : ℕ) × (held c.seat (suc j) ≡ Some (Shard y r)) × (x ≡ Shard (share (meaning script) turns b.book.journal j) r) =
      shard_in_hand meaning turns (caller c.seat) (held c.seat) (put_back content_of (value.Register b) xs) (may_give meaning p script c b k t st) script b.book (ap (λ (s : S). Some (Register s b.book)) k.script_is) j x e in
      record { container = share (meaning script) turns b.book.journal j; room = q.1; is = q.3; share_is = refl; enough = k.rooms j q.0 q.1 q.2 }

  -- its ticket is open
  holds : Holds (meaning script) b.book (caller c.seat) (waiting t (foresight_in (record_of b.book c.number)))
  holds = k.lawful.records (caller c.seat) (waiting t (foresight_in (record_of b.book c.number))) (own_record meaning p script c b k t st)

  module _ (first many : ℕ) (fe : first ≡ suc (place p.shards op)) (me : many ≡ span p.shards op) where
    pub can_work_here : CanWorkHere op first many c.hands.pairs
    can_work_here =
        let near : first + many ≤ 57 = omega (arith, near_row first many fe me, k.few_turns) in
        row.can_work_here (meaning script) turns p.shards k.script_kept shards_known k.some_shards op fits first many fe me near xs k.once b.book k.lawful ours t holds.is_open calls

  module _ (first many : ℕ) (fe : first ≡ suc (place p.shards op)) (me : many ≡ span p.shards op) (there : (u : ℕ) → first ≤ u → u < first + many → in_hands content_of c.hands.pairs u ≡ None → ⊥) where
    near : first + many ≤ 57
    near = omega (arith, near_row first many fe me, k.few_turns)

    pub can_work : CanWorkIn op first many c.hands.pairs
    can_work =
        row.can_work (meaning script) turns p.shards k.script_kept shards_known k.some_shards op fits first many fe me near xs k.once b.book k.lawful ours there t holds.is_open calls

    module _ (ys : List (ℕ × Held S)) (v : Value) (w : HasWorkedIn op first many c.hands.pairs ys v) where
      pub reply_here : reply (tables_after (meaning script) b.book.journal) op ≡ v
      reply_here = row.reply_here (meaning script) turns p.shards k.script_kept shards_known k.some_shards op fits first many fe me near xs k.once b.book k.lawful ours there ys v w

      others : (j : ℕ) → (IsTurnOf p.shards op j → ⊥) → in_hands content_of ys (suc j) ≡ in_hands content_of c.hands.pairs (suc j)
      others = row.others (meaning script) turns p.shards k.script_kept shards_known k.some_shards op fits first many fe me near xs k.once b.book k.lawful ours there ys v w

      -- the operation's turns are in hand before and after
      there_before : (j : ℕ) → IsTurnOf p.shards op j → in_hands content_of c.hands.pairs (suc j) ≡ None → ⊥
      there_before j i e = let r : (first ≤ suc j) × (suc j < first + many) = row.to_row p.shards op k.some_shards first many fe me j i in there (suc j) r.0 r.1 e

      there_after : (j : ℕ) → IsTurnOf p.shards op j → in_hands content_of ys (suc j) ≡ None → ⊥
      there_after j i e =
          there_before j i (worked_free op (in_hands content_of xs (suc j)) (in_hands content_of ys (suc j)) (row.changed (meaning script) turns p.shards k.script_kept shards_known k.some_shards op fits first many fe me near xs k.once b.book k.lawful ours there ys v w j i) e)

      module _ (free : IsFree b.book t op) (matches : Matches (foresight_in (record_of b.book c.number)) op) where
        here_mine : (P : ℕ → Type 0) → P p.shards → P (shards_in (meaning b.script) p.board.slots)
        here_mine P x = let Q : S → Type 0 = λ s. P (shards_in (meaning s) turns) in subst Q (sym k.script_is) (subst P (sym shards_known) x)

        there_mine : (P : ℕ → Type 0) → P (shards_in (meaning b.script) p.board.slots) → P p.shards
        there_mine P x = let Q : S → Type 0 = λ s. P (shards_in (meaning s) turns) in subst P shards_known (subst Q k.script_is x)

        worked : IsWorked meaning p.board.slots t op v (foresight_in (record_of b.book c.number)) b c.seat ys
        worked =
            let C : S → Type 0 = λ s. now (meaning s) b.book.journal t ≡ Calls op in
            let R : S → Type 0 = λ s. reply (tables_after (meaning s) b.book.journal) op ≡ v in
            record {
              before = put_back content_of (value.Register b) xs;
              moves = may_give meaning p script c b k t st;
              book = refl;
              each = λ j i. row.changed (meaning script) turns p.shards k.script_kept shards_known k.some_shards op fits first many fe me near xs k.once b.book k.lawful ours there ys v w j (there_mine (λ a. IsTurnOf a op j) i);
              others = λ j apart. others j (λ i. apart (here_mine (λ a. IsTurnOf a op j) i));
              all = λ j i. there_before j (there_mine (λ a. IsTurnOf a op j) i);
              calls = subst C (sym k.script_is) calls;
              matches = matches;
              free = free;
              reply_is = subst R (sym k.script_is) reply_here;
            }

        same_worked : SameTurns (held c.seat) (put_back content_of (value.Register b) ys)
        same_worked = (forth, back)
          where
            forth : (u : ℕ) → held c.seat u ≡ None → put_back content_of (value.Register b) ys u ≡ None
            forth zero e = absurd (none-some (Register script k.found) (sym e ∙ k.here))
            forth (suc j) e = let none : in_hands content_of xs (suc j) ≡ None = k.same_turns.0 (suc j) e in others j (λ i. there_before j i none) ∙ none

            back : (u : ℕ) → put_back content_of (value.Register b) ys u ≡ None → held c.seat u ≡ None
            back zero e = absurd (none-some (content_of (value.Register b)) (sym e))
            back (suc j) e = k.same_turns.1 (suc j) (sym (others j (λ i. there_after j i e)) ∙ e)

        pub worked_keeper : (hands : HandsView (Held S)) → hands.pairs ≡ ys → hands.room ≡ c.hands.room → IsKeeperIn meaning p script (record { seat = c.seat; number = c.number; stage = Applied t op v; hands = hands }) b
        worked_keeper hands is reserved =
            let once : Once content_of ys = row.once_worked (meaning script) turns p.shards k.script_kept shards_known k.some_shards op fits first many fe me near xs k.once b.book k.lawful ours there ys v w in
            let O : List (ℕ × Held S) → Type 0 = λ l. Once content_of l in
            let T : List (ℕ × Held S) → Type 0 = λ l. SameTurns (held c.seat) (put_back content_of (value.Register b) l) in
            let W : List (ℕ × Held S) → Type 0 = λ l. IsWorked meaning turns t op v (foresight_in (record_of b.book c.number)) b c.seat l in
            keeper_on meaning p script c b k c.seat hands (Applied t op v) k.seat (record { caller_is = refl; note_is = refl; caller_count_is = refl; given_is = refl; change_is = refl }) refl reserved
            (subst O (sym is) once) k.rooms (subst T (sym is) same_worked) (own_record meaning p script c b k t st, subst W (sym is) worked)
