use Rattle.std.proofs.Common.{◌∙◌, refl, sym, ap}
use Rattle.std.proofs.lemmas.Result.{err_from_is_err_and}
use Rattle.syntax_trees.specs.declared.expr.Expr.TheVariants as expr
use Rattle.handler_check.specs.Scan.{of_variables}
use Rattle.handler_check.proofs.Scans.{goes_on, stops, exits}
use Rattle.handler_check.proofs.Walks.{binary_both}
use Rattle.handler_check.proofs.faults.expr.+find_in_expr.Goals as goal

pub returns-in_err-find_in_expr-in-Binary : goal.returns-in_err-find_in_expr-in-Binary
returns-in_err-find_in_expr-in-Binary t c = λ tables earlier.
    let s = c.get.result.now in
    let is = c.in-Binary.is ∙ ap (expr.Binary c.in-Binary.calc) (sym c.get.ensures) in
    let parts = binary_both of_variables tables c.args.e.now s.0 s.1 c.in-Binary.calc s.0 s.1 earlier c.args.visible.now is refl refl in
    let p = err_from_is_err_and c.from_residual.result c.from_residual.ensures.1 in
    exits _ _ _ _ p.1 p.2 (stops _ _ _ _ parts (c.in_err-find_in_expr-in-Binary.ensures tables earlier))

pub returns-in_ok-find_in_expr-in-Binary : goal.returns-in_ok-find_in_expr-in-Binary
returns-in_ok-find_in_expr-in-Binary t c = λ tables earlier.
    let s = c.get.result.now in
    let is = c.in-Binary.is ∙ ap (expr.Binary c.in-Binary.calc) (sym c.get.ensures) in
    let parts = binary_both of_variables tables c.args.e.now s.0 s.1 c.in-Binary.calc s.0 s.1 earlier c.args.visible.now is refl refl in
    goes_on _ _ _ _ parts (c.in_ok-find_in_expr-in-Binary.ensures tables earlier) (c.find_in_expr-in-Binary.ensures tables earlier)
