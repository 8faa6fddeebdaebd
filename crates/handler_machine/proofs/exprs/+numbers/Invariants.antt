use Rattle.std.proofs.Common.{◌+◌, ◌*◌}
use Rattle.check_meaning.specs.Code.{expr_term}
use Rattle.handler_machine.proofs.Calculating.{term_size}
use Rattle.handler_machine.proofs.exprs.+numbers.Given as goal

abbrev pub decreases-number_in : goal.decreases-number_in
decreases-number_in l = 3 * term_size (expr_term l.expr.now)

abbrev pub decreases-calculated : goal.decreases-calculated
decreases-calculated l = 3 * (term_size (expr_term l.left.now) + term_size (expr_term l.right.now)) + 2

abbrev pub decreases-nested : goal.decreases-nested
decreases-nested l = 3 * (term_size (expr_term l.left.now) + term_size (expr_term l.right.now)) + 1
