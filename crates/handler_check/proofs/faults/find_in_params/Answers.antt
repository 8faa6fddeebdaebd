use Rattle.std.proofs.Common.{get_or, refl, ◌∙◌}
use Rattle.std.proofs.lemmas.Result.{err_from_is_err_and}
use Rattle.syntax_trees.specs.declared.file.Param.{Param}
use Rattle.handler_check.specs.Scan.{of_variables}
use Rattle.handler_check.proofs.Scans.{stops, exits}
use Rattle.handler_check.proofs.Walks.{name_turn}
use Rattle.handler_check.proofs.faults.find_in_params.Goals as goal

pub returns-in_err-declare_variable-clause-found : goal.returns-in_err-declare_variable-clause-found
returns-in_err-declare_variable-clause-found c = λ tables visible.
    let xs = c.args.params.now in
    let i = c.loop-param.param-index in
    let turn = name_turn (λ (x : Param). x.name) (λ (x : Param). x.at) of_variables tables xs i (get_or xs i _) _ c.loop-param.names.items visible c.loop-param-test.true refl in
    let p = err_from_is_err_and c.from_residual.result c.from_residual.ensures.1 in
    exits _ _ _ _ p.1 p.2 (stops _ _ _ _ (c.loop-param.invariant.found tables visible ∙ turn) c.in_err-declare_variable.ensures.found)
