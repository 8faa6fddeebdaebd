use Rattle.std.proofs.Common.{◌≡◌, ◌+◌, vec_len}
use Rattle.turn_board.specs.Boards.{AllEnd}
use Rattle.tests_threads.proofs.many.keep_each.Given as goal

abbrev pub invariant-loop-own : goal.invariant-loop-own
invariant-loop-own g l = record {
  seats : AllEnd l.board 32 l.seats.items;
  left : vec_len l.seats + l.own ≡ 33;
}
