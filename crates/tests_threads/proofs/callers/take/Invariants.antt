use Rattle.std.proofs.Common.{◌≡◌, ℕ}
use Rattle.turn_board.specs.Boards.{IsSeatOf, SameNote, held}
use Rattle.tests_threads.proofs.callers.take.Given as goal

abbrev pub invariant-loop : goal.invariant-loop
invariant-loop g l = record {
  seat : IsSeatOf l.board l.seat;
  spoken : SameNote l.fn.seat l.seat;
  held_is : (u : ℕ) → held l.seat u ≡ held l.fn.seat u;
}
