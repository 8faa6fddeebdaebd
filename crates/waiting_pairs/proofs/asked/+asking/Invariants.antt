use Rattle.std.proofs.Common.{◌≡◌, ◌++◌, drop}
use Rattle.check_meaning.specs.Code.{block_code}
use Rattle.serve_reading.proofs.Counting.{checked_size, checked_sizes}
use Rattle.waiting_pairs.specs.Waits.{operations}
use Rattle.waiting_pairs.proofs.asked.+asking.Given as goal

abbrev pub decreases-add_stmt : goal.decreases-add_stmt
decreases-add_stmt l = checked_size l.stmt.now

abbrev pub decreases-add_block : goal.decreases-add_block
decreases-add_block l = checked_sizes l.block.now

abbrev pub invariant-add_block-loop-stmt : goal.invariant-add_block-loop-stmt
invariant-add_block-loop-stmt l = l.out.items ++ operations l.handler (block_code (drop l.stmt-index l.block)) ≡ l.fn.out.items ++ operations l.handler (block_code l.block)
