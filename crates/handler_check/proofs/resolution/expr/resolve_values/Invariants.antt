use Rattle.std.proofs.Common.{◌≡◌, ◌++◌, map, drop}
use Rattle.check_meaning.specs.Code.{expr_term}
use Rattle.handler_check.specs.Resolved.{term_of}
use Rattle.handler_check.proofs.resolution.expr.resolve_values.Given as goal

abbrev pub invariant-loop-value : goal.invariant-loop-value
invariant-loop-value l = map expr_term l.found.items ++ map (term_of l.variables) (drop l.value-index l.values) ≡ map (term_of l.variables) l.values
