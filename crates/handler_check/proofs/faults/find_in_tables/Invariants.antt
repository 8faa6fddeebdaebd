use Rattle.std.proofs.Common.{◌≡◌, ◌++◌, [], drop, map}
use Rattle.syntax_trees.specs.declared.file.TableDecl.{TableDecl}
use Rattle.syntax_trees.specs.Marks.{table_marks}
use Rattle.handler_check.specs.Scan.{of_tables, scan}
use Rattle.handler_check.proofs.faults.find_in_tables.Given as goal

abbrev pub invariant-loop-table : goal.invariant-loop-table
invariant-loop-table l = record {
  found : scan of_tables [] [] [] (table_marks l.tables) ≡ scan of_tables [] l.earlier.items [] (table_marks (drop l.table-index l.tables));
  names : map (λ (t : TableDecl). t.name) l.tables ≡ l.earlier.items ++ map (λ (t : TableDecl). t.name) (drop l.table-index l.tables);
}
