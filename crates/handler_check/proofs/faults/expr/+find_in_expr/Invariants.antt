use Rattle.syntax_trees.proofs.Sizes.{expr_size}
use Rattle.handler_check.proofs.faults.expr.+find_in_expr.Given as goal

abbrev pub decreases-find_in_expr : goal.decreases-find_in_expr
decreases-find_in_expr l = expr_size l.e.now
