use Rattle.std.proofs.Common.{◌≡◌, ◌+◌, ◌≤◌, ◌++◌, length, map, Some, vec_len, vec_capacity}
use Rattle.turn_steps.proofs.open.fill_slots.Given as goal

abbrev pub invariant-loop-done : goal.invariant-loop-done
invariant-loop-done g l = record {
  moved : l.slots.items ++ map Some l.values.items ≡ map Some l.fn.values.items;
  many : l.done + vec_len l.values ≡ vec_len l.fn.values;
  count : length l.slots.items ≡ l.done;
  space : vec_len l.fn.values ≤ vec_capacity l.slots;
  room : vec_capacity l.values ≡ vec_capacity l.fn.values;
}
