use Rattle.std.proofs.Common.{◌≡◌, ◌+◌, ◌++◌, ℕ, List, drop}
use Rattle.syntax_trees.specs.Marks.{declared, marks}
use Rattle.handler_check.specs.Scan.{of_variables, scan}
use Rattle.syntax_trees.specs.Source.{block_source}
use Rattle.syntax_trees.proofs.Sizes.{stmt_size, block_size}
use Rattle.handler_check.proofs.faults.stmt.+statement.Given as goal

abbrev pub decreases-find_in_stmt : goal.decreases-find_in_stmt
decreases-find_in_stmt l = stmt_size l.s.now

abbrev pub decreases-find_in_body : goal.decreases-find_in_body
decreases-find_in_body l = 1 + block_size l.body.now

abbrev pub decreases-find_in_block : goal.decreases-find_in_block
decreases-find_in_block l = block_size l.block.now

abbrev pub invariant-find_in_block-loop-s : goal.invariant-find_in_block-loop-s
invariant-find_in_block-loop-s l = record {
  found : scan of_variables l.tables l.fn.names.items l.fn.visible.items (marks (block_source l.block)) ≡ scan of_variables l.tables l.names.items l.visible.items (marks (block_source (drop l.s-index l.block)));
  names : l.fn.names.items ++ declared (marks (block_source l.block)) ≡ l.names.items ++ declared (marks (block_source (drop l.s-index l.block)));
  visible : (more : List ℕ) × (l.visible.items ≡ l.fn.visible.items ++ more);
}
