use Rattle.std.proofs.Common.{◌≡◌, ℕ}
use Rattle.turn_board.specs.Moving.{Emptied, TakenOut}
use Rattle.turn_steps.specs.Passes.{held}
use Rattle.turn_board.proofs.Several.{Walk}
use Rattle.turn_board.proofs.board.Board.take_out_all.Given as goal

abbrev pub invariant-loop-left : goal.invariant-loop-left
invariant-loop-left g l = record {
  turn : ℕ;
  walk : Walk l.set l.left l.self.words.table.shared.table_id.slots turn;
  emptied : Emptied l.set turn l.fn.seat.pass.token l.seat.pass.token;
  taken_out : TakenOut g.R.TieRule.content l.set turn (held l.fn.seat.pass.token) l.fn.hands.pairs l.hands.pairs;
  room : l.hands.room ≡ l.fn.hands.room;
}

abbrev pub decreases-loop-left : goal.decreases-loop-left
decreases-loop-left g l = l.left
