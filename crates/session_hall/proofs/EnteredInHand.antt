-- An operation that was done in hand is entered in the book in hand.
use Rattle.std.proofs.Common.{◌≡◌, ℕ, suc, ◌<◌, List, [], ◌∷◌, length, inl, inr, Option, Some, None, refl, sym, ◌∙◌, ap, subst}
use Rattle.std.proofs.lemmas.List.{get_or-set_same}
use Rattle.std.proofs.lemmas.Option.{slice_get_within}
use Rattle.session_values.specs.declared.op.Op.{Op}
use Rattle.session_values.specs.declared.value.Value.{Value}
use Rattle.session_values.specs.Dialogue.{replies}
use Rattle.session_values.specs.Tables.{Container, after_on}
use Rattle.session_values.specs.Kinds.{home}
use Rattle.symbolic_ops.specs.declared.symbol.Symbol.{Symbol}
use Rattle.session_journal.specs.declared.event.Event.{Event}
use Rattle.session_journal.specs.declared.event.Event.TheVariants.{Done}
use Rattle.session_journal.specs.Journal.{entries, caller_of}
use Rattle.session_journal.specs.Script.{Meaning, IsScript}
use Rattle.session_journal.proofs.Events.{first_stays, entries_more}
use Rattle.admission_book.specs.Book.{Book, Holds, record_of, after_done}
use Rattle.admission_book.specs.Lawful.{Lawful}
use Rattle.admission_book.specs.Methods as books
use Rattle.admission_book.specs.Methods.{BookView}
use Rattle.admission_book.proofs.Records.{within}
use Rattle.turn_board.specs.Boards.{held, caller}
use Rattle.turn_board.specs.Hands.{in_hands, put_back}
use Rattle.hall_rule.specs.declared.held.Held.{Held}
use Rattle.hall_rule.specs.declared.held.Held.TheVariants as value
use Rattle.hall_rule.specs.Contents.{Content, Register, Shard, share, shards_in}
use Rattle.hall_rule.specs.Law.{same_container}
use Rattle.hall_rule.specs.Shards.{content_of}
use Rattle.hall_rule.specs.Tie.{Moves}
use Rattle.hall_rule.proofs.Shares.{share_worked, share_still}
use Rattle.session_hall.specs.declared.caller.Caller.{Caller}
use Rattle.session_hall.specs.declared.holding.Holding.{Holding}
use Rattle.session_hall.specs.declared.stage.Stage.{Stage}
use Rattle.session_hall.specs.declared.stage.Stage.TheVariants.{Serving as Serves, Applied}
use Rattle.session_hall.specs.Begun.{tickets_by}
use Rattle.session_hall.specs.HoldingCalls.{EnteredFrom}
use Rattle.session_hall.specs.Holdings.{IsKeeperIn, IsWorked, StandsKept}
use Rattle.session_hall.specs.Names.{HallId}
use Rattle.session_hall.specs.Stages.{SeatOf, foresight_in, waiting}
use Rattle.session_hall.proofs.Begun.{still_begun}
use Rattle.session_hall.proofs.Entering.{worked_held, worked_free}
use Rattle.session_hall.proofs.Giving.{Changes, one_record, opens}
use Rattle.session_hall.proofs.InHand.{turns_still}
use Rattle.session_hall.proofs.OnRow.{turn_or_not}
use Rattle.session_hall.proofs.Keeping.{moves_on, shard_in_hand}

-- what is in hand may be given back with the operation entered in the book
module _ {S : Type 0} (meaning : S → Meaning) (turns t : ℕ) (op : Op) (v : Value) (f : List Symbol) (b : BookView S) (s : SeatOf S) (xs : List (ℕ × Held S))
    (w : IsWorked meaning turns t op v f b s xs) (known : IsScript (meaning b.script)) (lawful : Lawful (meaning b.script) b.book) (own : record_of b.book (caller s) ≡ Some (waiting t f))
    (d : BookView S) (kept : d.script ≡ b.script) (left : Lawful (meaning d.script) d.book) (next : List Symbol) (is : d.book ≡ after_done b.book (caller s) (waiting t f) op v next) where
  abbrev m : Meaning
  m = meaning b.script

  abbrev J : List Event
  J = b.book.journal

  abbrev after : Book
  after = after_done b.book (caller s) (waiting t f) op v next

  in_table : op.table < length (meaning b.script).shape
  in_table = slice_get_within m.shape op.table (home op.kind) (known.fits t (replies (entries J t)) op w.calls).table

  before_share : (j : ℕ) (y : Container) (room : ℕ) → w.before (suc j) ≡ Some (Shard y room) → y ≡ share (meaning b.script) turns b.book.journal j
  before_share j y room e =
      let q : (z : Container) × (r : ℕ) × (held s (suc j) ≡ Some (Shard z r)) × (Shard y room ≡ Shard (share m turns J j) r) = shard_in_hand meaning turns (caller s) (held s) w.before w.moves b.script b.book w.book j (Shard y room) e in
      same_container {S = S} y (share m turns J j) room q.1 q.3

  held_now : (j : ℕ) (x : Content S) → in_hands content_of xs (suc j) ≡ Some x → (y : Container) × (room : ℕ) × (w.before (suc j) ≡ Some (Shard y room)) × (x ≡ Shard (share (meaning b.script) turns after.journal j) room)
  held_now j x e = elim (turn_or_not (shards_in m turns) op j) [
    | inl i ↦
        let q : (y : Container) × (room : ℕ) × (w.before (suc j) ≡ Some (Shard y room)) × (x ≡ Shard (after_on y op) room) = worked_held op (w.before (suc j)) (in_hands content_of xs (suc j)) x (w.each j i) e in
        (q.0, q.1, q.2, q.3 ∙ ap (λ (y : Container). Shard y q.1) (ap (λ (y : Container). after_on y op) (before_share j q.0 q.1 q.2) ∙ sym (share_worked m (opens m known) turns J t op v in_table j i)))
    | inr n ↦
        let z : w.before (suc j) ≡ Some x = sym (w.others j n) ∙ e in
        let q : (y : Container) × (r : ℕ) × (held s (suc j) ≡ Some (Shard y r)) × (x ≡ Shard (share m turns J j) r) = shard_in_hand meaning turns (caller s) (held s) w.before w.moves b.script b.book w.book j x z in
        (share m turns J j, q.1, z ∙ ap Some q.3, q.3 ∙ ap (λ (y : Container). Shard y q.1) (sym (share_still m (opens m known) turns J t op v in_table j n)))
  ]

  free_now : (j : ℕ) → in_hands content_of xs (suc j) ≡ None → (w.before (suc j) ≡ None) × (share (meaning b.script) turns b.book.journal j ≡ share (meaning b.script) turns after.journal j)
  free_now j e = elim (turn_or_not (shards_in m turns) op j) [
    | inl i ↦ absurd (w.all j i (worked_free op (w.before (suc j)) (in_hands content_of xs (suc j)) (w.each j i) e))
    | inr n ↦ (sym (w.others j n) ∙ e, sym (share_still m (opens m known) turns J t op v in_table j n))
  ]

  changes : Changes (meaning b.script) (caller s) b.book after (Done t op v ∷ [])
  changes =
      let holds : Holds m b.book (caller s) (waiting t f) = lawful.records (caller s) (waiting t f) own in
      one_record m (caller s) b.book after (Some (waiting t next)) (Done t op v ∷ []) refl refl (first_stays (caller_of t) J (Done t op v ∷ []) (caller s) holds.owner, tt)

  pub entered_moves : Moves meaning turns (caller s) (held s) (put_back content_of (value.Register d) xs)
  entered_moves =
      let P : S → Type 0 = λ z. Lawful (meaning z) d.book in
      let Q : Book → Type 0 = λ z. Lawful m z in
      moves_on meaning turns (caller s) (held s) w.before w.moves b.script b.book w.book (put_back content_of (value.Register d) xs) after (Done t op v ∷ [])
      (λ i. Some (Register (kept i) (is i))) (subst Q is (subst P kept left)) changes held_now free_now

module _ {S : Type 0} (meaning : S → Meaning) (p : HallId) (script : S) (c : Caller S) (b : BookView S) (k : IsKeeperIn meaning p script c b) (t : ℕ) (op : Op) (v : Value) (st : c.stage ≡ Applied t op v) where
  abbrev f : List Symbol
  f = foresight_in (record_of b.book c.number)

  stands_here : StandsKept meaning p.board.slots (Applied t op v) (foresight_in (record_of b.book c.number)) b c.seat c.hands.pairs
  stands_here = let P : Stage → Type 0 = λ s. StandsKept meaning p.board.slots s f b c.seat c.hands.pairs in subst P st k.stands

  own : record_of b.book (caller c.seat) ≡ Some (waiting t (foresight_in (record_of b.book c.number)))
  own = stands_here.0

  worked : IsWorked meaning p.board.slots t op v (foresight_in (record_of b.book c.number)) b c.seat c.hands.pairs
  worked = stands_here.1

  lawful_here : Lawful (meaning b.script) b.book
  lawful_here = let P : S → Type 0 = λ s. Lawful (meaning s) b.book in subst P (sym k.script_is) k.lawful

  known_here : IsScript (meaning b.script)
  known_here = let P : S → Type 0 = λ s. IsScript (meaning s) in subst P (sym k.script_is) k.script_kept

  module _ (next : List Symbol) (d : BookView S) (kept : d.script ≡ b.script) (left : Lawful (meaning d.script) d.book) (did : books.Entered b.book t op v next d.book) where
    is_done : d.book ≡ after_done b.book (caller c.seat) (waiting t (foresight_in (record_of b.book c.number))) op v next
    is_done = did (caller c.seat) (waiting t f) own refl

    record_is : record_of d.book (caller c.seat) ≡ Some (waiting t next)
    record_is = ap (λ (w : Book). record_of w (caller c.seat)) is_done ∙ get_or-set_same b.book.records (caller c.seat) (Some (waiting t next)) None (within b.book.records (caller c.seat) (waiting t f) own)

    foresight_is : foresight_in (record_of d.book c.number) ≡ next
    foresight_is = ap (λ (u : ℕ). foresight_in (record_of d.book u)) (sym k.number_is) ∙ ap foresight_in record_is

    abbrev later : Caller S
    later = record { seat = c.seat; number = c.number; stage = Serves t; hands = c.hands }

    pub entered_keeper : IsKeeperIn meaning p script (record { seat = c.seat; number = c.number; stage = Serves t; hands = c.hands }) d
    entered_keeper =
        let P : S → Type 0 = λ s. Lawful (meaning s) d.book in
        record {
          seat = k.seat;
          number_is = k.number_is;
          caller_count_is = k.caller_count_is;
          noted = k.noted;
          script_kept = k.script_kept;
          tables_are = k.tables_are;
          some_shards = k.some_shards;
          few_shards = k.few_shards;
          turns_are = k.turns_are;
          few_turns = k.few_turns;
          hands_room = k.hands_room;
          once = k.once;
          script_is = kept ∙ k.script_is;
          lawful = subst P (kept ∙ k.script_is) left;
          found = k.found;
          here = k.here;
          finds = k.finds;
          rooms = k.rooms;
          same_turns = turns_still (held c.seat) b d c.hands.pairs k.same_turns;
          stands = (
            record_is ∙ ap (λ (l : List Symbol). Some (waiting t l)) (sym foresight_is),
            entered_moves meaning p.board.slots t op v f b c.seat c.hands.pairs worked known_here lawful_here own d kept left next is_done,
          );
        }

    -- what the call says of it
    pub entered_kept : (h : Holding S) → h.caller ≡ c → h.book ≡ Some b → (ends n : ℕ) (m : Meaning) → EnteredFrom m h (record { caller = record { seat = c.seat; number = c.number; stage = Serves t; hands = c.hands }; book = Some d; ends = ends; entered = n }) next c.stage
    entered_kept h by has ends n m =
        let now : Holding S = record { caller = later; book = Some d; ends = ends; entered = n } in
        let P : Caller S → Option (BookView S) → Type 0 = λ x o. EnteredFrom m (record { caller = x; book = o; ends = h.ends; entered = h.entered }) now next c.stage in
        let Q : Caller S → Type 0 = λ x. P x h.book in
        let R : Stage → Type 0 = λ s. EnteredFrom m (record { caller = c; book = Some b; ends = h.ends; entered = h.entered }) now next s in
        subst Q (sym by) (subst (P c) (sym has) (subst R (sym st) (record {
          hand = record { seat_still = refl; hands_still = refl; number_still = refl; kept = tt };
          is = is_done;
          stage_is = refl;
          foresight_is = foresight_is;
          entries_more = ap (λ (w : Book). entries w.journal t) is_done ∙ entries_more b.book.journal t op v;
          begun_still = ap (λ (w : Book). tickets_by (caller c.seat) w.journal) is_done ∙ still_begun (caller c.seat) b.book.journal (Done t op v) refl;
        })))
