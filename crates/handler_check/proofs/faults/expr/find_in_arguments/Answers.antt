use Rattle.std.proofs.Common.{◌∙◌}
use Rattle.std.proofs.lemmas.Result.{err_from_is_err_and}
use Rattle.syntax_trees.specs.Marks.{atom_marks}
use Rattle.handler_check.specs.Scan.{of_variables}
use Rattle.handler_check.proofs.Scans.{atom_declares, stops, exits, later}
use Rattle.handler_check.proofs.Walks.{silent_turn}
use Rattle.handler_check.proofs.faults.expr.find_in_arguments.Goals as goal

pub returns-in_err-find_in_atom : goal.returns-in_err-find_in_atom
returns-in_err-find_in_atom c = λ tables earlier.
    let x = c.atom-item.result in
    let turn = silent_turn atom_marks atom_declares of_variables tables c.args.args.now c.loop-atom.atom-index x x earlier c.args.visible.now c.loop-atom-test.true c.atom-item.is in
    let p = err_from_is_err_and c.from_residual.result c.from_residual.ensures.1 in
    exits _ _ _ _ p.1 p.2 (stops _ _ _ _ (c.loop-atom.invariant tables earlier ∙ turn) (c.in_err-find_in_atom.ensures tables earlier))

pub loop-atom-preserved : goal.loop-atom-preserved
loop-atom-preserved c = λ tables earlier.
    let x = c.atom-item.result in
    let turn = silent_turn atom_marks atom_declares of_variables tables c.args.args.now c.loop-atom.atom-index x x earlier c.args.visible.now c.loop-atom-test.true c.atom-item.is in
    later _ _ _ (c.loop-atom.invariant tables earlier ∙ turn) (c.in_ok-find_in_atom.ensures tables earlier)
