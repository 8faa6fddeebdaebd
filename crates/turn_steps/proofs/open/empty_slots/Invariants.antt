use Rattle.std.proofs.Common.{◌≡◌, ◌+◌, ◌≤◌, ◌++◌, List, length, map, Some, vec_len, vec_capacity}
use Rattle.turn_steps.proofs.open.empty_slots.Given as goal

abbrev pub invariant-loop-done : goal.invariant-loop-done
invariant-loop-done g l = record {
  moved : map Some l.values.items ++ l.left.items ≡ l.fn.slots.items;
  rest : (all : List g.row.V.Denot) × (l.left.items ≡ map Some all);
  many : l.done + vec_len l.left ≡ vec_len l.fn.slots;
  count : length l.values.items ≡ l.done;
  room : vec_len l.fn.slots ≤ vec_capacity l.values;
}
