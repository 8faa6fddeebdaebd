use Rattle.std.proofs.Common.{◌≡◌, ◌+◌, ◌≤◌, ◌++◌, length, map, vec_len, vec_capacity}
use Rattle.std.specs.List.{AllByRecursion}
use Rattle.hall_rule.specs.declared.held.Held.TheVariants.{Table}
use Rattle.session_hall.specs.Closings.{IsTable}
use Rattle.session_hall.proofs.closing.parts_of.Given as goal

abbrev pub invariant-loop-done : goal.invariant-loop-done
invariant-loop-done g l = record {
  moved : map Table l.parts.items ++ l.left.items ≡ l.fn.values.items;
  tables : AllByRecursion IsTable l.left.items;
  many : l.done + vec_len l.left ≡ vec_len l.fn.values;
  count : length l.parts.items ≡ l.done;
  room : vec_len l.fn.values ≤ vec_capacity l.parts;
}
