use Rattle.std.proofs.Common.{◌≡◌, ◌<◌, ◌≤◌, ℕ, length, get_or}
use Rattle.session_values.specs.declared.value.Value.TheVariants.{Nil}
use Rattle.session_values.specs.Values.{IsValue}
use Rattle.handler_machine.proofs.variables.put_args.Given as goal

abbrev pub invariant-loop-i : goal.invariant-loop-i
invariant-loop-i l = record {
  values : (k : ℕ) → k < l.i → get_or l.env k Nil ≡ get_or l.args k Nil;
  kept : (k : ℕ) → length l.args ≤ k → get_or l.env k Nil ≡ get_or l.fn.env k Nil;
  held : (k : ℕ) → k < l.i → IsValue (get_or l.args k Nil);
}
