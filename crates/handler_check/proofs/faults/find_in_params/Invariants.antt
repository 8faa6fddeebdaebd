use Rattle.std.proofs.Common.{◌≡◌, ◌++◌, [], ℕ, List, drop}
use Rattle.syntax_trees.specs.declared.file.TableDecl.{TableDecl}
use Rattle.syntax_trees.specs.Marks.{param_marks, param_names}
use Rattle.handler_check.specs.Scan.{of_variables, scan}
use Rattle.handler_check.proofs.faults.find_in_params.Given as goal

abbrev pub invariant-loop-param : goal.invariant-loop-param
invariant-loop-param l = record {
  found : (tables : List TableDecl) (visible : List ℕ) → scan of_variables tables [] visible (param_marks l.params) ≡ scan of_variables tables l.names.items visible (param_marks (drop l.param-index l.params));
  names : param_names l.params ≡ l.names.items ++ param_names (drop l.param-index l.params);
}
