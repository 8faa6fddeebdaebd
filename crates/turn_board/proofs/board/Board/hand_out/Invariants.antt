use Rattle.std.proofs.Common.{◌≡◌, ◌+◌, ◌≤◌, Some, vec_len, vec_capacity, ℕ, suc}
use Rattle.std.specs.Prelude.{slice_get}
use Rattle.turn_steps.specs.Tied.{all_speak}
use Rattle.turn_steps.specs.Passes.{IdleFirst}
use Rattle.turn_board.specs.Openings.{Unlost, Fresh}
use Rattle.turn_board.proofs.board.Board.hand_out.Given as goal

abbrev pub invariant-loop-next : goal.invariant-loop-next
invariant-loop-next g l =
    let id = l.self.words.table.shared.table_id in
    record {
      idle : IdleFirst id l.first.pass.token;
      unlost : Unlost l.first.pass.token;
      caller_count_is : l.first.pass.token.me.0.caller_count ≡ l.callers;
      change_is : l.first.pass.token.me.0.change ≡ l.fn.first.pass.token.me.0.change;
      callers : (k n : ℕ) × (l.next ≡ suc k) × (k + suc n ≡ l.callers) × (vec_len l.list ≡ k) × ((b : _) → l.fn.first.pass.token.me.0.speaks ≡ all_speak 0 l.callers b → l.first.pass.token.me.0.speaks ≡ all_speak k (suc n) b);
      room : l.callers ≤ vec_capacity l.list;
      each : (b : _) → l.fn.first.pass.token.me.0.speaks ≡ all_speak 0 l.callers b → (i : ℕ) (s : _) → slice_get l.list.items i ≡ Some s → Fresh id l.callers b l.fn.first.pass.token.me.0.change i s.pass.token;
    }
