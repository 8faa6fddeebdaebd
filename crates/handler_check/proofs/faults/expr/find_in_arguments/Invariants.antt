use Rattle.std.proofs.Common.{◌≡◌, ℕ, List, drop}
use Rattle.std.specs.List.{flat_map}
use Rattle.syntax_trees.specs.declared.file.TableDecl.{TableDecl}
use Rattle.syntax_trees.specs.Marks.{atom_marks}
use Rattle.handler_check.specs.Scan.{of_variables, scan}
use Rattle.handler_check.proofs.faults.expr.find_in_arguments.Given as goal

abbrev pub invariant-loop-atom : goal.invariant-loop-atom
invariant-loop-atom l =
    (tables : List TableDecl) (earlier : List ℕ) → scan of_variables tables earlier l.visible (flat_map atom_marks l.args) ≡ scan of_variables tables earlier l.visible (flat_map atom_marks (drop l.atom-index l.args))
