use Rattle.turn_board.specs.Boards.{Ends}
use Rattle.tests_threads.specs.Callers.{HasRoom}
use Rattle.tests_threads.proofs.callers.work.Given as goal

abbrev pub invariant-loop-done : goal.invariant-loop-done
invariant-loop-done g l = record {
  seat : Ends l.board 4 l.caller l.seat;
  room : HasRoom l.hands;
}
