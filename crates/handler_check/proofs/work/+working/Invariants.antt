use Rattle.std.proofs.Common.{◌≡◌, ◌+◌, ◌≤◌, min, drop}
use Rattle.check_meaning.specs.Bounds.{work_bound}
use Rattle.check_meaning.specs.Code.{block_code}
use Rattle.handler_check.proofs.Counting.{checked_size, checked_sizes}
use Rattle.handler_check.proofs.work.+working.Given as goal

abbrev pub decreases-work_of : goal.decreases-work_of
decreases-work_of l = checked_size l.s.now

abbrev pub decreases-count_work : goal.decreases-count_work
decreases-count_work l = checked_sizes l.block.now

abbrev pub invariant-count_work-loop-s : goal.invariant-count_work-loop-s
invariant-count_work-loop-s l = record {
  sum : min (l.total + work_bound (block_code (drop l.s-index l.block))) 4294967295 ≡ min (work_bound (block_code l.block)) 4294967295;
  small : l.total ≤ 4294967295;
}
