use Rattle.std.proofs.Common.{take}
use Rattle.symbolic_ops.specs.Matching.{IsBelowSome}
use Rattle.symbolic_ops.proofs.covering.is_below_some.Given as goal

abbrev pub invariant-loop-above : goal.invariant-loop-above
invariant-loop-above l = IsBelowSome l.s (take l.above-index l.list) → ⊥
