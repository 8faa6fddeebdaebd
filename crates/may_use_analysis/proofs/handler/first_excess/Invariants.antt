use Rattle.may_use_analysis.specs.Numbered.{AreShortBelow}
use Rattle.may_use_analysis.proofs.handler.first_excess.Given as goal

abbrev pub invariant-loop-point : goal.invariant-loop-point
invariant-loop-point l = AreShortBelow l.lists l.point
