use Rattle.std.proofs.Common.{drop}
use Rattle.check_meaning.specs.Code.{block_code}
use Rattle.may_use_analysis.specs.Vars.{IsStill}
use Rattle.may_use_analysis.proofs.still.+being_still.Given as goal

abbrev pub invariant-is_block_still-loop-stmt : goal.invariant-is_block_still-loop-stmt
invariant-is_block_still-loop-stmt l = IsStill l.vars.bits (block_code (drop l.stmt-index l.block)) → IsStill l.vars.bits (block_code l.block)
