use Rattle.std.proofs.Common.{◌≡◌, ◌+◌, ◌≤◌, ◌++◌, ◌∷◌, map, vec_len, vec_capacity}
use Rattle.hall_rule.specs.declared.held.Held.TheVariants.{Register, Table}
use Rattle.session_hall.proofs.reopening.shards_behind.Given as goal

abbrev pub invariant-loop-done : goal.invariant-loop-done
invariant-loop-done g l = record {
  moved : l.values.items ++ map Table l.parts.items ≡ Register l.fn.book ∷ map Table l.fn.parts.items;
  many : l.done + vec_len l.parts ≡ vec_len l.fn.parts;
  count : vec_len l.values ≡ l.done + 1;
  space : 1 + vec_len l.fn.parts ≤ vec_capacity l.values;
  room : vec_capacity l.parts ≡ vec_capacity l.fn.parts;
}
