-- Where no caller holds the book.
use Rattle.std.proofs.Common.{◌≡◌, ℕ, zero, suc, ◌<◌, length, sym, ◌∙◌, arith}
use Rattle.std.proofs.lemmas.Option.{same_Some, slice_get_within}
use Rattle.std.specs.Prelude.{slice_index}
use Rattle.std.specs.Int.{bit_at}
use Rattle.turn_board.specs.States.{BoardState, IsFree}
use Rattle.turn_board.specs.Tied as board
use Rattle.session_journal.specs.Script.{Meaning}
use Rattle.hall_rule.specs.declared.held.Held.{Held}
use Rattle.hall_rule.specs.Contents.{Content, Register}
use Rattle.hall_rule.specs.Free.{FreeBook}
use Rattle.hall_rule.specs.Shards.{content_of}
use Rattle.hall_rule.specs.Tie.{Tied}
use Rattle.hall_rule.proofs.Counting.{counted}

pub whenever : {S : Type 0} (meaning : S → Meaning) (callers : ℕ) (s : BoardState (Held S) (Content S)) (r : board.Tied content_of (Tied meaning) callers s) → IsFree s 0 → FreeBook meaning r.contents r.notes s.homes
whenever {S} meaning callers s r clear = go (r.owner 0) (r.each_turn 0 some)
  where
    some : 0 < length s.homes
    some = omega (arith, slice_get_within r.contents 0 (Register r.tied.script r.tied.book) r.tied.register, r.turns)

    go : (o : ℕ) → board.TurnOk content_of callers r.owner r.seat_of r.contents r.notes s 0 o → FreeBook meaning r.contents r.notes s.homes
    go zero k = record {
      script = r.tied.script;
      book = r.tied.book;
      held = k.1.2.0;
      in_slot = k.1.2.1;
      content_is = k.1.2.2 ∙ same_Some k.1.0 (Register r.tied.script r.tied.book) (sym k.1.1 ∙ r.tied.register);
      replays = λ kept. counted meaning r.contents r.notes r.tied.script r.tied.book kept r.tied r.tied.register;
    }
    go (suc o) k = absurd (let a : bit_at (slice_index s.words 7) 0 ≡ 1 = k.0 in omega (arith, a, clear))
