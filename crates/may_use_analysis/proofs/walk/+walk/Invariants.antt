use Rattle.std.proofs.Common.{◌≡◌, ◌+◌, ◌*◌, ◌++◌, List, Contains, drop}
use Rattle.check_meaning.specs.Code.{block_code}
use Rattle.handler_check.proofs.Counting.{checked_size, checked_sizes}
use Rattle.may_use_analysis.specs.Flow.{Flow, Head}
use Rattle.may_use_analysis.specs.Ordered.{Are}
use Rattle.may_use_analysis.specs.Recorded.{Recorded}
use Rattle.may_use_analysis.specs.PointList.{PointList}
use Rattle.may_use_analysis.specs.Warm.{AreWarm}
use Rattle.may_use_analysis.proofs.FlowLemmas.{Within}
use Rattle.may_use_analysis.proofs.walk.+walk.Given as goal

abbrev pub decreases-before_block : goal.decreases-before_block
decreases-before_block l = 2 * checked_sizes l.block.now

abbrev pub decreases-before_stmt : goal.decreases-before_stmt
decreases-before_stmt l = 2 * checked_size l.stmt.now

abbrev pub decreases-before_loop : goal.decreases-before_loop
decreases-before_loop l = 2 * checked_sizes l.parts.body.now + 1

abbrev pub invariant-before_block-loop-i : goal.invariant-before_block-loop-i
invariant-before_block-loop-i l = record {
  set : Are l.set (Flow (block_code (drop l.i l.block)) (Contains l.fn.after));
  lists : Recorded (block_code (drop l.i l.block)) (Contains l.fn.after) l.fn.out l.out;
}

abbrev pub invariant-before_loop-loop : goal.invariant-before_loop-loop
invariant-before_loop-loop l = record {
  sound : Within (Contains l.head) (Head l.parts.var (block_code l.parts.body.now) (Contains l.fn.after));
  start : Within (Contains l.fn.after) (Contains l.head);
  kept : (more : List PointList) × (l.out ≡ l.fn.out ++ more);
  warm : AreWarm l.heads (block_code l.parts.body.now) (Contains l.head);
}
