use Rattle.std.proofs.Common.{◌≡◌, ◌+◌, ◌≤◌, min, drop}
use Rattle.syntax_trees.proofs.Sizes.{stmt_size, block_size}
use Rattle.syntax_printer.proofs.countable.+measuring.Given as goal

abbrev pub decreases-size_of_stmt : goal.decreases-size_of_stmt
decreases-size_of_stmt l = stmt_size l.s.now

abbrev pub decreases-size_of_block : goal.decreases-size_of_block
decreases-size_of_block l = block_size l.block.now

abbrev pub invariant-size_of_block-loop-s : goal.invariant-size_of_block-loop-s
invariant-size_of_block-loop-s l = record {
  sum : min (l.size + block_size (drop l.s-index l.block)) 4294967296 ≡ min (1 + block_size l.block) 4294967296;
  small : l.size ≤ 4294967295;
}
