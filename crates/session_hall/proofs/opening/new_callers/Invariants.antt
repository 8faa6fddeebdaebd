use Rattle.std.proofs.Common.{◌≡◌, ◌+◌, ◌≤◌, ℕ, Some, vec_len, vec_capacity}
use Rattle.std.specs.Prelude.{slice_get}
use Rattle.session_hall.specs.Openings.{AllNew, AreEmpty}
use Rattle.session_hall.proofs.opening.new_callers.Given as goal

abbrev pub invariant-loop-number : goal.invariant-loop-number
invariant-loop-number g l = record {
  new : AllNew l.fn.seats.items l.number l.callers.items;
  left : (i : ℕ) (s : _) → slice_get l.left.items i ≡ Some s → slice_get l.fn.seats.items (l.number + i) ≡ Some s;
  many : l.number + vec_len l.left ≡ vec_len l.fn.seats;
  free : AreEmpty (vec_len l.left) l.free.items;
  room : vec_len l.fn.seats ≤ vec_capacity l.callers;
}
