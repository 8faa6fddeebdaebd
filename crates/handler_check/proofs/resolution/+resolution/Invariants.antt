use Rattle.std.proofs.Common.{◌≡◌, ◌+◌, drop}
use Rattle.handler_check.specs.Resolved.{code_of, points_of}
use Rattle.handler_check.proofs.Resolving.{onto}
use Rattle.syntax_trees.proofs.Sizes.{stmt_size, block_size}
use Rattle.syntax_trees.specs.Source.{block_source}
use Rattle.handler_check.proofs.resolution.+resolution.Given as goal

abbrev pub decreases-resolve_stmt : goal.decreases-resolve_stmt
decreases-resolve_stmt l = stmt_size l.s.now

abbrev pub decreases-resolve_block : goal.decreases-resolve_block
decreases-resolve_block l = block_size l.block.now

abbrev pub invariant-resolve_block-loop-s : goal.invariant-resolve_block-loop-s
invariant-resolve_block-loop-s l = record {
  code : onto l.tables l.variables l.found.items (code_of l.tables l.variables (block_source (drop l.s-index l.block)) l.points) ≡ code_of l.tables l.variables (block_source l.block) l.fn.points;
  points : l.points + points_of (block_source (drop l.s-index l.block)) ≡ l.fn.points + points_of (block_source l.block);
}
