use Rattle.std.proofs.Common.{Contains, drop}
use Rattle.check_meaning.specs.Code.{block_code}
use Rattle.handler_check.proofs.Counting.{checked_size, checked_sizes}
use Rattle.may_use_analysis.specs.Recorded.{Recorded}
use Rattle.may_use_analysis.proofs.still.+keeping_still.Given as goal

abbrev pub decreases-keep_block : goal.decreases-keep_block
decreases-keep_block l = checked_sizes l.block.now

abbrev pub decreases-keep_stmt : goal.decreases-keep_stmt
decreases-keep_stmt l = checked_size l.stmt.now

abbrev pub invariant-keep_block-loop-i : goal.invariant-keep_block-loop-i
invariant-keep_block-loop-i l = Recorded (block_code (drop l.i l.block)) (Contains l.list) l.fn.out l.out
