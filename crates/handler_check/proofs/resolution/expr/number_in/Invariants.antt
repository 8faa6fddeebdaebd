use Rattle.std.proofs.Common.{◌≡◌, ◌+◌, drop}
use Rattle.handler_check.specs.Resolved.{number_in}
use Rattle.handler_check.proofs.resolution.expr.number_in.Given as goal

abbrev pub invariant-loop-number : goal.invariant-loop-number
invariant-loop-number l = number_in l.names l.name ≡ l.number + number_in (drop l.number l.names) l.name
