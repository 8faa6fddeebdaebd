use Rattle.std.proofs.Common.{◌∙◌}
use Rattle.std.proofs.lemmas.Result.{err_from_is_err_and}
use Rattle.syntax_trees.specs.Marks.{expr_marks}
use Rattle.handler_check.specs.Scan.{of_variables}
use Rattle.handler_check.proofs.Scans.{expr_declares, stops, exits, later}
use Rattle.handler_check.proofs.Walks.{silent_turn}
use Rattle.handler_check.proofs.faults.expr.find_in_values.Goals as goal

pub returns-in_err-find_in_expr : goal.returns-in_err-find_in_expr
returns-in_err-find_in_expr c = λ tables earlier.
    let x = c.value-item.result in
    let turn = silent_turn expr_marks expr_declares of_variables tables c.args.values.now c.loop-value.value-index x x earlier c.args.visible.now c.loop-value-test.true c.value-item.is in
    let p = err_from_is_err_and c.from_residual.result c.from_residual.ensures.1 in
    exits _ _ _ _ p.1 p.2 (stops _ _ _ _ (c.loop-value.invariant tables earlier ∙ turn) (c.in_err-find_in_expr.ensures tables earlier))

pub loop-value-preserved : goal.loop-value-preserved
loop-value-preserved c = λ tables earlier.
    let x = c.value-item.result in
    let turn = silent_turn expr_marks expr_declares of_variables tables c.args.values.now c.loop-value.value-index x x earlier c.args.visible.now c.loop-value-test.true c.value-item.is in
    later _ _ _ (c.loop-value.invariant tables earlier ∙ turn) (c.in_ok-find_in_expr.ensures tables earlier)
