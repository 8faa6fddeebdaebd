use Rattle.std.proofs.Common.{◌≡◌, take}
use Rattle.std.specs.List.{AllByRecursion}
use Rattle.may_use_analysis.specs.Steps.{back}
use Rattle.may_use_analysis.specs.Stores.{step_of}
use Rattle.may_use_analysis.proofs.ordered.is_any_changed.Given as goal

abbrev pub invariant-loop-s : goal.invariant-loop-s
invariant-loop-s l = AllByRecursion (λ s. back (step_of l.store) s ≡ s) (take l.s-index l.list)
