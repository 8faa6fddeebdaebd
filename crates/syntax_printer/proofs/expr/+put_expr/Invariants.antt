use Rattle.syntax_trees.proofs.Sizes.{expr_size}
use Rattle.syntax_printer.proofs.expr.+put_expr.Given as goal

abbrev pub decreases-put_expr : goal.decreases-put_expr
decreases-put_expr g l = expr_size l.e.now
