use Rattle.syntax_trees.proofs.Sizes.{expr_size}
use Rattle.handler_check.proofs.resolution.expr.+resolve_expr.Given as goal

abbrev pub decreases-resolve_expr : goal.decreases-resolve_expr
decreases-resolve_expr l = expr_size l.e.now
