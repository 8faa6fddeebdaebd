use Rattle.std.proofs.Common.{ℕ, ◌+◌, ◌*◌, Contains, drop}
use Rattle.check_meaning.specs.Code.{Finish, Loop, IsNumbered, block_code, points}
use Rattle.handler_check.proofs.Counting.{checked_size, checked_sizes}
use Rattle.may_use_analysis.specs.Flow.{Flow, Head}
use Rattle.may_use_analysis.specs.Warm.{HeadAt, SameOutside, StaysWarm}
use Rattle.may_use_analysis.proofs.FlowLemmas.{Within}
use Rattle.may_use_analysis.proofs.spread.+spread.Given as goal

abbrev pub decreases-spread_block : goal.decreases-spread_block
decreases-spread_block l = 2 * checked_sizes l.block.now

abbrev pub decreases-spread_stmt : goal.decreases-spread_stmt
decreases-spread_stmt l = 2 * checked_size l.stmt.now

abbrev pub decreases-spread_loop : goal.decreases-spread_loop
decreases-spread_loop l = 2 * checked_sizes l.parts.body.now + 1

abbrev pub invariant-spread_block-loop-i : goal.invariant-spread_block-loop-i
invariant-spread_block-loop-i l = record {
  within : Within (Contains l.set) (Flow (block_code (drop l.i l.block)) (Contains l.fn.after));
  warm : StaysWarm (block_code l.block) l.fn.after l.fn.heads l.heads;
  others : (low : ℕ) → IsNumbered (block_code l.block) low → SameOutside l.fn.heads l.heads low (low + points (block_code l.block));
}

abbrev pub invariant-spread_loop-loop : goal.invariant-spread_loop-loop
invariant-spread_loop-loop l = record {
  all : Within (Contains l.all) (Head l.parts.var (block_code l.parts.body.now) (Contains l.fn.after));
  fresh : Within (Contains l.fresh) (Head l.parts.var (block_code l.parts.body.now) (Contains l.fn.after));
  kept : Within (Contains l.fresh) (HeadAt l.heads l.parts.point);
  warm : StaysWarm (Loop 0 l.parts.point 0 l.parts.var (block_code l.parts.body.now) Finish) l.fn.after l.fn.heads l.heads;
  others : (low : ℕ) → IsNumbered (Loop 0 l.parts.point 0 l.parts.var (block_code l.parts.body.now) Finish) low → SameOutside l.fn.heads l.heads low (low + points (block_code l.parts.body.now) + 1);
}
