use Rattle.std.proofs.Common.{[], get_or, refl, ◌∙◌}
use Rattle.std.proofs.lemmas.Result.{err_from_is_err_and}
use Rattle.syntax_trees.specs.declared.file.TableDecl.{TableDecl}
use Rattle.handler_check.specs.Scan.{of_tables}
use Rattle.handler_check.proofs.Scans.{stops, exits}
use Rattle.handler_check.proofs.Walks.{name_turn}
use Rattle.handler_check.proofs.faults.find_in_tables.Goals as goal

pub returns-in_err-declare-clause-found : goal.returns-in_err-declare-clause-found
returns-in_err-declare-clause-found c =
    let xs = c.args.tables.now in
    let i = c.loop-table.table-index in
    let turn = name_turn (λ (t : TableDecl). t.name) (λ (t : TableDecl). t.at) of_tables [] xs i (get_or xs i _) _ c.loop-table.earlier.items [] c.loop-table-test.true refl in
    let p = err_from_is_err_and c.from_residual.result c.from_residual.ensures.1 in
    exits _ _ _ _ p.1 p.2 (stops _ _ _ _ (c.loop-table.invariant.found ∙ turn) c.in_err-declare.ensures.found)
