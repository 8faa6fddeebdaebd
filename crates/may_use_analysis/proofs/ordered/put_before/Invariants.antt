use Rattle.std.proofs.Common.{◌≡◌, ◌++◌, map, take, drop}
use Rattle.may_use_analysis.specs.Steps.{back}
use Rattle.may_use_analysis.specs.Stores.{step_of}
use Rattle.may_use_analysis.proofs.ordered.put_before.Given as goal

abbrev pub invariant-loop-i : goal.invariant-loop-i
invariant-loop-i l = l.list ≡ map (back (step_of l.store)) (take l.i l.fn.list) ++ drop l.i l.fn.list
