use Rattle.std.proofs.Common.{◌≡◌, ◌+◌, ◌≤◌, min, drop}
use Rattle.check_meaning.specs.Bounds.{bound}
use Rattle.check_meaning.specs.Code.{block_code}
use Rattle.handler_check.specs.Counted.{weight_of}
use Rattle.handler_check.proofs.Counting.{checked_size, checked_sizes}
use Rattle.handler_check.proofs.bounds.+counting.Given as goal

abbrev pub decreases-count_stmt : goal.decreases-count_stmt
decreases-count_stmt l = checked_size l.s.now

abbrev pub decreases-count_calls : goal.decreases-count_calls
decreases-count_calls l = checked_sizes l.block.now

abbrev pub invariant-count_calls-loop-s : goal.invariant-count_calls-loop-s
invariant-count_calls-loop-s l = record {
  sum : min (l.total + bound (weight_of l.counted) (block_code (drop l.s-index l.block))) 4294967295 ≡ min (bound (weight_of l.counted) (block_code l.block)) 4294967295;
  small : l.total ≤ 4294967295;
}
