use Rattle.std.proofs.lemmas.Result.{err_from_is_err_and}
use Rattle.syntax_trees.specs.Marks.{expr_marks}
use Rattle.handler_check.specs.Scan.{of_variables}
use Rattle.handler_check.proofs.Scans.{expr_declares, goes_on, stops, exits}
use Rattle.handler_check.proofs.Walks.{silent_both}
use Rattle.handler_check.proofs.faults.expr.find_in_cond.Goals as goal

pub returns-in_err-find_in_expr : goal.returns-in_err-find_in_expr
returns-in_err-find_in_expr c = λ tables earlier.
    let cond = c.args.cond.now in
    let parts = silent_both of_variables tables (expr_marks cond.left) (expr_marks cond.right) earlier c.args.visible.now (expr_declares cond.left) in
    let p = err_from_is_err_and c.from_residual.result c.from_residual.ensures.1 in
    exits _ _ _ _ p.1 p.2 (stops _ _ _ _ parts (c.in_err-find_in_expr.ensures tables earlier))

pub returns : goal.returns
returns c = λ tables earlier.
    let cond = c.args.cond.now in
    let parts = silent_both of_variables tables (expr_marks cond.left) (expr_marks cond.right) earlier c.args.visible.now (expr_declares cond.left) in
    goes_on _ _ _ _ parts (c.in_ok-find_in_expr.ensures tables earlier) (c.find_in_expr-2.ensures tables earlier)
