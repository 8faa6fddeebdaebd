-- An operation that was done on its shards is entered in the book.
use Rattle.std.proofs.Common.{◌≡◌, ℕ, zero, suc, ◌<◌, List, [], ◌∷◌, ◌++◌, length, Option, Some, None, refl, sym, ◌∙◌, ap, subst, arith}
use Rattle.std.proofs.lemmas.List.{length-set, get_or-set_other}
use Rattle.std.proofs.lemmas.Option.{none-some, same_Some, slice_get_within}
use Rattle.session_values.specs.declared.op.Op.{Op}
use Rattle.session_values.specs.declared.value.Value.{Value}
use Rattle.session_values.specs.Dialogue.{Entry, rest, replies}
use Rattle.session_values.specs.Tables.{Container, Fits, after_on, reply}
use Rattle.session_values.specs.Kinds.{home}
use Rattle.symbolic_ops.specs.declared.symbol.Symbol.{Symbol}
use Rattle.symbolic_ops.specs.Matching.{Covered}
use Rattle.session_journal.specs.declared.event.Event.TheVariants.{Done}
use Rattle.session_journal.specs.Journal.{entries, caller_of}
use Rattle.session_journal.specs.Script.{Meaning, IsForesight}
use Rattle.admission_book.specs.Book.{Book, Holds, record_of, after_done}
use Rattle.admission_book.specs.Lawful.{Lawful}
use Rattle.admission_book.specs.Methods.{BookView, MayDo, DidIt}
use Rattle.session_journal.proofs.Events.{first_stays, entries_more}
use Rattle.turn_board.specs.Boards.{IsSeatOf, SameNote, BookedAll, turn_count, held, caller}
use Rattle.turn_board.specs.Hands.{in_hands, put_back}
use Rattle.turn_board.specs.Maps.{SameTurns}
use Rattle.hall_rule.specs.declared.held.Held.TheVariants as value
use Rattle.hall_rule.specs.Contents.{Content, Register, Shard, tables_after}
use Rattle.hall_rule.specs.Shards.{content_of}
use Rattle.hall_rule.specs.Tie.{Moves}
use Rattle.hall_rule.specs.Turns.{ChangedBy, WasDone}
use Rattle.hall_rule.proofs.Entries.{entries_since}
use Rattle.hall_rule.proofs.Shares.{share_worked, share_still}
use Rattle.session_hall.specs.declared.caller.Caller.{Caller}
use Rattle.session_hall.specs.declared.hall.Hall.{Hall}
use Rattle.session_hall.specs.declared.stage.Stage.{Stage}
use Rattle.session_hall.specs.declared.stage.Stage.TheVariants.{Idle, Serving as Serves, InFlight, Applied, Out}
use Rattle.session_hall.specs.Callers.{IsCallerOf, book_of, entries_of, foresight_of}
use Rattle.session_hall.specs.Calls.{MayFinish, MayFinishAt, FinishedFrom}
use Rattle.session_hall.specs.Findings.{HasBook}
use Rattle.session_hall.specs.Names.{script_of}
use Rattle.session_hall.specs.Stages.{IsApplied, SeatOf, Stands, waiting, flying}
use Rattle.session_hall.proofs.Giving.{at_script, own_set, lawful_left, register_is, left_is, who, holds_none, gave_back, caller_after, foresight_left, opens}

-- ---- the stage
pub is_applied : (m : Meaning) (s : Stage) (f : List Symbol) (b : Book) (next : List Symbol) → MayFinishAt m s f b next → IsApplied s
is_applied m Idle f b next may = may
is_applied m (Serves t) f b next may = may
is_applied m (InFlight t op) f b next may = may
is_applied m (Applied t op v) f b next may = tt
is_applied m Out f b next may = may

-- ---- what was in a turn and what is in the hands
pub worked_held : {S : Type 0} (op : Op) (o k : Option (Content S)) (x : Content S) → ChangedBy op o k → k ≡ Some x → (c : Container) × (room : ℕ) × (o ≡ Some (Shard c room)) × (x ≡ Shard (after_on c op) room)
worked_held op None None x w e = absurd (none-some x e)
worked_held op None (Some y) x w e = absurd w
worked_held op (Some z) None x w e = absurd w
worked_held op (Some z) (Some y) x w e = (w.0, w.1, ap Some w.2, sym (same_Some y x e) ∙ w.3)

pub worked_free : {S : Type 0} (op : Op) (o k : Option (Content S)) → ChangedBy op o k → k ≡ None → o ≡ None
worked_free op None k w e = refl
worked_free op (Some z) None w e = absurd w
worked_free op (Some z) (Some y) w e = absurd (none-some y (sym e))

pub free_worked : {S : Type 0} (op : Op) (o k : Option (Content S)) → ChangedBy op o k → o ≡ None → k ≡ None
free_worked op o None w e = refl
free_worked op None (Some y) w e = absurd w
free_worked op (Some z) (Some y) w e = absurd (none-some z (sym e))

module _ {S : Type 0} (meaning : S → Meaning) (h : Hall S) (c : Caller S) (k : IsCallerOf meaning h c) (q : SeatOf S) (b : BookView S) (v : SameNote c.seat q) (f : HasBook c.seat q meaning (script_of h) (turn_count h.board) b) (t : ℕ) (op : Op) (answer : Value) (st : c.stage ≡ Applied t op answer) where
  abbrev m : Meaning
  m = meaning (script_of h)

  stands_here : Stands (meaning (script_of h)) (turn_count h.board) (Applied t op answer) (foresight_of c) (book_of c) c.seat c.hands.pairs
  stands_here = let P : Stage → Type 0 = λ s. Stands (meaning (script_of h)) (turn_count h.board) s (foresight_of c) (book_of c) c.seat c.hands.pairs in subst P st k.stands

  worked : WasDone (meaning (script_of h)) (turn_count h.board) op answer (held c.seat) (in_hands content_of c.hands.pairs)
  worked = stands_here.1

  own_record : record_of b.book (caller c.seat) ≡ Some (flying t (foresight_of c) op)
  own_record = sym f.finds.since.own ∙ stands_here.0

  holds : Holds (meaning (script_of h)) b.book (caller c.seat) (flying t (foresight_of c) op)
  holds = f.finds.lawful.records (caller c.seat) (flying t (foresight_of c) op) own_record

  still : entries b.book.journal t ≡ entries_of c t
  still = entries_since (book_of c) b.book (caller c.seat) t f.finds.since holds.owner

  fits : Fits (meaning (script_of h)).shape op
  fits = k.script_kept.fits t (replies (entries b.book.journal t)) op (holds.flight op refl)

  in_table : op.table < length (meaning (script_of h)).shape
  in_table = slice_get_within (meaning (script_of h)).shape op.table (home op.kind) fits.table

  shard_held : (j : ℕ) → held q (suc j) ≡ held c.seat (suc j)
  shard_held j = f.others (suc j) (λ e. omega arith)

  -- the reply is the one behind the book that was found
  reply_stands : answer ≡ reply (tables_after (meaning (script_of h)) b.book.journal) op
  reply_stands = sym (worked.settled b.book.journal (λ j x room e. f.shares j x room (shard_held j ∙ e)))

  pub may_do : (next : List Symbol) → MayFinish (meaning (script_of h)) c next → MayDo (meaning b.script) b.book t answer next
  may_do next may =
      let P : Stage → Type 0 = λ s. MayFinishAt m s (foresight_of c) (book_of c) next in
      let a : MayFinishAt m (Applied t op answer) (foresight_of c) (book_of c) next = subst P st may in
      let T : List Entry → Type 0 = λ es. Covered next (m.told t (replies (es ++ record { op = op; reply = answer } ∷ []))) in
      let R : List Entry → Type 0 = λ es. IsForesight (rest (m.next t) (replies (es ++ record { op = op; reply = answer } ∷ []))) next in
      at_script meaning h c k q b v f (λ n. MayDo n b.book t answer next) (record {
        caller = caller c.seat;
        serving = flying t (foresight_of c) op;
        op = op;
        is = own_record;
        ticket = refl;
        flight = refl;
        reply_is = reply_stands;
        covered = a.0;
        covers = subst R (sym still) a.1;
        declared = subst T (sym still) a.2;
      })

  pub same_turns : (d : BookView S) → SameTurns (held q) (put_back content_of (value.Register d) c.hands.pairs)
  same_turns d = (λ u e. forth u e, λ u e. back u e)
    where
      forth : (u : ℕ) → held q u ≡ None → put_back content_of (value.Register d) c.hands.pairs u ≡ None
      forth zero e = absurd (none-some (Register (script_of h) b.book) (sym e ∙ f.here))
      forth (suc j) e = free_worked op _ _ (worked.each j) (sym (shard_held j) ∙ e)

      back : (u : ℕ) → put_back content_of (value.Register d) c.hands.pairs u ≡ None → held q u ≡ None
      back zero e = absurd (none-some (content_of (value.Register d)) (sym e))
      back (suc j) e = shard_held j ∙ worked_free op _ _ (worked.each j) e

  module _ (next : List Symbol) (d : BookView S) (kept : d.script ≡ b.script) (lawful : Lawful (meaning d.script) d.book) (did : DidIt b.book t answer next d.book) where
    abbrev after : Book
    after = after_done b.book (caller c.seat) (flying t (foresight_of c) op) op answer next

    is_done : d.book ≡ after
    is_done = did (caller c.seat) (flying t (foresight_of c) op) op own_record refl refl

    done_moves : Moves meaning (turn_count h.board) (caller c.seat) (held q) (put_back content_of (value.Register d) c.hands.pairs)
    done_moves = record {
      script = script_of h;
      before = b.book;
      now = after;
      was = f.here;
      is = ap Some (register_is meaning h c k q b v f d kept lawful after is_done);
      lawful = lawful_left meaning h c k q b v f d kept lawful after is_done;
      callers = length-set b.book.records (caller c.seat) (Some (waiting t next));
      others = λ u n. get_or-set_other b.book.records (caller c.seat) u (Some (waiting t next)) None n;
      more = Done t op answer ∷ [];
      grows = refl;
      own = (first_stays (caller_of t) b.book.journal (Done t op answer ∷ []) (caller c.seat) holds.owner, tt);
      held = λ j x e.
          let w : (y : Container) × (room : ℕ) × (held c.seat (suc j) ≡ Some (Shard y room)) × (x ≡ Shard (after_on y op) room) = worked_held op _ _ x (worked.each j) e in
          let here : held q (suc j) ≡ Some (Shard w.0 w.1) = shard_held j ∙ w.2 in (
            w.0,
            w.1,
            here,
            w.3 ∙ ap (λ (y : Container). Shard y w.1) (ap (λ (y : Container). after_on y op) (f.shares j w.0 w.1 here)
                ∙ sym (share_worked m (opens m k.script_kept) (turn_count h.board) b.book.journal t op answer in_table j (worked.mine j (Shard w.0 w.1) w.2))),
          );
      free = λ j e. sym (share_still m (opens m k.script_kept) (turn_count h.board) b.book.journal t op answer in_table j (worked.all j (worked_free op _ _ (worked.each j) e)));
    }

    pub finish_moves : Moves meaning (turn_count h.board) (caller q) (held q) (put_back content_of (value.Register d) c.hands.pairs)
    finish_moves = let P : ℕ → Type 0 = λ n. Moves meaning (turn_count h.board) n (held q) (put_back content_of (value.Register d) c.hands.pairs) in subst P (sym v.caller_is) done_moves

    module _ (r : Caller S) (seat : IsSeatOf h.board r.seat) (bk : BookedAll q r.seat (Register d.script d.book)) (pairs : r.hands.pairs ≡ []) (reserved : r.hands.room ≡ c.hands.room) (number : r.number ≡ c.number) (stage : r.stage ≡ Serves t) where
      left_here : record_of after (caller r.seat) ≡ Some (waiting t next)
      left_here = own_set meaning h c k q b v f (Some (waiting t next)) (caller r.seat) (who meaning h c k q b v f d kept lawful after is_done r seat bk pairs reserved number)

      pub finished_caller : IsCallerOf meaning h r
      finished_caller =
          caller_after meaning h c k q b v f d kept lawful after is_done r seat bk pairs reserved number next (Serves t) stage
          (left_here, holds_none meaning h c k q b v f d kept lawful after is_done r seat bk pairs reserved number)

      pub finished_at : FinishedFrom (meaning (script_of h)) c r next c.stage
      finished_at =
          let P : Stage → Type 0 = λ s. FinishedFrom m c r next s in
          subst P (sym st) (record {
            found = b.book;
            gave = gave_back meaning h c k q b v f d kept lawful after is_done r seat bk pairs reserved number;
            stage_is = stage;
            foresight_is = foresight_left meaning h c k q b v f d kept lawful after is_done r seat bk pairs reserved number (Some (waiting t next)) left_here;
            entries_more = ap (λ (w : Book). entries w.journal t) (left_is meaning h c k q b v f d kept lawful after is_done r seat bk pairs reserved number) ∙ entries_more b.book.journal t op answer ∙ ap (λ (es : List Entry). es ++ record { op = op; reply = answer } ∷ []) still;
          })
