use Rattle.std.proofs.Common.{◌≡◌, ◌≤◌, vec_capacity, vec_len}
use Rattle.session_hall.specs.Openings.{AreEmpty}
use Rattle.session_hall.proofs.opening.empty_hands.Given as goal

abbrev pub invariant-loop-made : goal.invariant-loop-made
invariant-loop-made g l = record {
  empty : AreEmpty {S = g.row.S.Denot} l.made l.list.items;
  long : vec_len l.list ≡ l.made;
  room : l.callers ≤ vec_capacity l.list;
}
