use Rattle.std.proofs.Common.{◌≡◌, ◌≢◌, ℕ, ◌<◌, Some}
use Rattle.std.specs.Prelude.{slice_get}
use Rattle.turn_board.proofs.hands.Hands.sought.Given as goal

abbrev pub invariant-loop-i : goal.invariant-loop-i
invariant-loop-i g l = (j : ℕ) (x : ℕ × g.row.V.Denot) → j < l.i → slice_get l.self.pairs j ≡ Some x → x.0 ≢ l.turn
