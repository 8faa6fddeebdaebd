use Rattle.std.proofs.Common.{ℕ, ◌<◌, get_or}
use Rattle.may_use_analysis.specs.declared.kept.Kept.TheVariants.{Count}
use Rattle.may_use_analysis.specs.PointList.{IsHeld}
use Rattle.may_use_analysis.proofs.kept.are_held.Given as goal

abbrev pub invariant-loop-entry : goal.invariant-loop-entry
invariant-loop-entry l = (k : ℕ) → k < l.entry-index → IsHeld (get_or l.entries k (Count 0))
