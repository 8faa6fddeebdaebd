use Rattle.std.proofs.Common.{◌≡◌, ℕ, List, drop}
use Rattle.std.specs.List.{flat_map}
use Rattle.syntax_trees.specs.declared.file.TableDecl.{TableDecl}
use Rattle.syntax_trees.specs.Marks.{expr_marks}
use Rattle.handler_check.specs.Scan.{of_variables, scan}
use Rattle.handler_check.proofs.faults.expr.find_in_values.Given as goal

abbrev pub invariant-loop-value : goal.invariant-loop-value
invariant-loop-value l =
    (tables : List TableDecl) (earlier : List ℕ) → scan of_variables tables earlier l.visible (flat_map expr_marks l.values) ≡ scan of_variables tables earlier l.visible (flat_map expr_marks (drop l.value-index l.values))
