use Rattle.std.proofs.Common.{◌≡◌, length}
use Rattle.turn_board.specs.Hands.{Once}
use Rattle.turn_board.proofs.Fills.{Filling}
use Rattle.turn_board.proofs.board.Board.lower_all.Given as goal

abbrev pub invariant-loop-turn : goal.invariant-loop-turn
invariant-loop-turn g l = record {
  once : Once g.R.TieRule.content l.hands.pairs;
  filling : Filling g.R.TieRule.content l.fn.hands.pairs l.hands.pairs l.mask l.fn.seat.pass.token l.seat.pass.token;
  room : l.hands.room ≡ l.fn.hands.room;
}

abbrev pub decreases-loop-turn : goal.decreases-loop-turn
decreases-loop-turn g l = length l.hands.pairs
