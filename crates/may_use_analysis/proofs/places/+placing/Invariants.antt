use Rattle.std.proofs.Common.{◌≡◌, ◌++◌, drop}
use Rattle.check_meaning.specs.Code.{block_code}
use Rattle.handler_check.proofs.Counting.{checked_size, checked_sizes}
use Rattle.may_use_analysis.specs.Places.{places}
use Rattle.may_use_analysis.proofs.places.+placing.Given as goal

abbrev pub decreases-add_stmt : goal.decreases-add_stmt
decreases-add_stmt l = checked_size l.stmt.now

abbrev pub decreases-add_block : goal.decreases-add_block
decreases-add_block l = checked_sizes l.block.now

abbrev pub invariant-add_block-loop-stmt : goal.invariant-add_block-loop-stmt
invariant-add_block-loop-stmt l = l.out.items ++ places (block_code (drop l.stmt-index l.block)) ≡ l.fn.out.items ++ places (block_code l.block)
