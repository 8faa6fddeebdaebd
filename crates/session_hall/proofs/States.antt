-- A hall in a state of its table.
use Rattle.std.proofs.Common.{◌≡◌, ℕ, zero, suc, ◌<◌, List, [], ◌∷◌, length, Option, Some, sym, ◌∙◌, ap, subst, refl, arith}
use Rattle.std.proofs.lemmas.Option.{same_Some, slice_get_within}
use Rattle.std.specs.Prelude.{slice_get, slice_index}
use Rattle.std.specs.Int.{bit_at}
use mathlib.Core.Option.{some}
use lib.ListN.{get_elem?}
use Rattle.session_values.specs.declared.op.Op.{Op}
use Rattle.session_values.specs.declared.value.Value.{Value}
use Rattle.session_values.specs.Tables.{Container, reply}
use Rattle.session_journal.specs.Script.{Meaning}
use Rattle.admission_book.specs.Book.{Book}
use Rattle.admission_book.specs.Lawful.{Lawful}
use Rattle.turn_board.specs.Boards.{held, note}
use Rattle.turn_board.specs.States.{IsFree}
use Rattle.turn_board.specs.Passes.{Token}
use Rattle.turn_board.specs.Passes as passes
use Rattle.turn_board.specs.Tied as board
use Rattle.hall_rule.specs.Contents.{Content, Register, Shard, share, tables_after}
use Rattle.hall_rule.specs.Law.{same_script, same_container}
use Rattle.hall_rule.specs.Shards.{content_of}
use Rattle.hall_rule.specs.Tie.{Tied}
use Rattle.hall_rule.specs.Turns.{WasDone}
use Rattle.hall_rule.proofs.Counting.{counted}
use Rattle.session_hall.specs.declared.caller.Caller.{Caller}
use Rattle.session_hall.specs.declared.hall.Hall.{Hall}
use Rattle.session_hall.specs.declared.stage.Stage.{Stage}
use Rattle.session_hall.specs.declared.stage.Stage.TheVariants.{Applied}
use Rattle.session_hall.specs.Callers.{IsCallerOf, book_of, foresight_of}
use Rattle.session_hall.specs.Names.{script_of}
use Rattle.session_hall.specs.Stages.{Stands}
use Rattle.session_hall.specs.States.{HallState, HasReply, IsInSlot, IsStateOf}

-- what the seat's view would be with these callers and notes
abbrev speaking : {V C : Type 0} → Token V C → List (ℕ × C) → Token V C
speaking p l = record {
  marker = p.marker;
  table_id = p.table_id;
  id = p.id;
  me = (
    record {
      speaks = l;
      counts = p.me.0.counts;
      places = p.me.0.places;
      lost = p.me.0.lost;
      given = p.me.0.given;
      caller_count = p.me.0.caller_count;
      asks = p.me.0.asks;
      givings = p.me.0.givings;
      change = p.me.0.change;
    },
    p.me.1,
  );
}

module _ {S : Type 0} (meaning : S → Meaning) (h : Hall S) (c : Caller S) (is_caller : IsCallerOf meaning h c) (s : HallState S) (k : IsStateOf content_of (Tied meaning) h c s) where
  abbrev r : board.Tied content_of (Tied meaning) h.board.words.table.shared.key.caller_count s
  r = k.rule

  view : board.ViewOk content_of h.board.words.table.shared.key.caller_count r.owner r.seat_of r.contents r.notes s c.seat.pass.token.id c.seat.pass.token.me.0
  view = r.each_view c.seat.pass.token.id c.seat.pass.token.me.0 k.seat

  -- the script in the slot is that of the caller's note
  script_is : r.tied.script ≡ script_of h
  script_is =
      let one = is_caller.seat.placed.one in
      let at : get_elem? c.seat.pass.token.me.0.speaks 0 ≡ some (one.0, one.1) = ap (λ (l : List (ℕ × Content S)). get_elem? l 0) one.2 in
      let is : one.1 ≡ Register (script_of h) (book_of c) = same_Some one.1 _ (sym (ap (λ (l : List (ℕ × Content S)). passes.note (speaking c.seat.pass.token l)) one.2) ∙ is_caller.noted) in
      let n = r.tied.noted one.0 one.1 ((view.spoken 0 one.0 one.1 at).3) in
      same_script r.tied.script (script_of h) n.noted (book_of c) (sym n.is ∙ is)

  register : slice_get r.contents 0 ≡ Some (Register (script_of h) r.tied.book)
  register = r.tied.register ∙ ap (λ (z : S). Some (Register z r.tied.book)) script_is

  lawful : Lawful (meaning (script_of h)) r.tied.book
  lawful = let P : S → Type 0 = λ z. Lawful (meaning z) r.tied.book in subst P script_is r.tied.lawful

  -- ---- the book is in its slot
  pub in_slot : IsFree s 0 → IsInSlot meaning (script_of h) r.contents r.notes s.homes
  in_slot clear = go (r.owner 0) (r.each_turn 0 first)
    where
      first : 0 < length s.homes
      first = omega (arith, slice_get_within r.contents 0 (Register r.tied.script r.tied.book) r.tied.register, r.turns)

      go : (o : ℕ) → board.TurnOk content_of h.board.words.table.shared.key.caller_count r.owner r.seat_of r.contents r.notes s 0 o → IsInSlot meaning (script_of h) r.contents r.notes s.homes
      go zero f = record {
        script_kept = is_caller.script_kept;
        book = r.tied.book;
        value = f.1.2.0;
        in_slot = f.1.2.1;
        value_is = f.1.2.2 ∙ same_Some f.1.0 (Register (script_of h) r.tied.book) (sym f.1.1 ∙ register);
        counted = register;
        lawful = lawful;
        replays = counted meaning r.contents r.notes (script_of h) r.tied.book is_caller.script_kept r.tied register;
      }
      go (suc o) f = absurd (let a : bit_at (slice_index s.words 7) 0 ≡ 1 = f.0 in omega (arith, a, clear))

  -- ---- an operation was done, and isn't entered yet
  turns_are : length r.contents ≡ h.board.words.table.shared.table_id.slots
  turns_are = r.turns ∙ k.slots

  -- a shard that is held is its part of the tables after the counted book's journal
  part_is : (j : ℕ) (x : Container) (room : ℕ) → held c.seat (suc j) ≡ Some (Shard x room) → x ≡ share (meaning (script_of h)) h.board.words.table.shared.table_id.slots r.tied.book.journal j
  part_is j x room e =
      let q = r.tied.shards j (Shard x room) ((view.held (suc j) (Shard x room) e).1) in
      same_container x q.container room q.room q.is
      ∙ q.share_is
      ∙ ap (λ (z : S). share (meaning z) (length r.contents) r.tied.book.journal j) script_is
      ∙ ap (λ (n : ℕ). share (meaning (script_of h)) n r.tied.book.journal j) turns_are

  pub has_reply : (t : ℕ) (op : Op) (v : Value) → c.stage ≡ Applied t op v → HasReply (meaning (script_of h)) (script_of h) r.contents op v
  has_reply t op v at =
      let P : Stage → Type 0 = λ x. Stands (meaning (script_of h)) h.board.words.table.shared.table_id.slots x (foresight_of c) (book_of c) c.seat c.hands.pairs in
      let stands = subst P at is_caller.stands in
      record {
        book = r.tied.book;
        counted = register;
        lawful = lawful;
        reply_is = stands.1.settled r.tied.book.journal part_is;
      }
