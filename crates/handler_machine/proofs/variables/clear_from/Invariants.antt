use Rattle.std.proofs.Common.{◌≡◌, ◌<◌, ◌≤◌, ℕ, get_or}
use Rattle.session_values.specs.declared.value.Value.TheVariants.{Nil}
use Rattle.handler_machine.proofs.variables.clear_from.Given as goal

abbrev pub invariant-loop-i : goal.invariant-loop-i
invariant-loop-i l = record {
  kept : (k : ℕ) → k < l.from → get_or l.env k Nil ≡ get_or l.fn.env k Nil;
  nil : (k : ℕ) → l.from ≤ k → k < l.i → get_or l.env k Nil ≡ Nil;
}
