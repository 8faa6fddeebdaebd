use Rattle.std.proofs.Common.{◌≡◌, take}
use Rattle.std.specs.List.{AllByRecursion}
use Rattle.symbolic_ops.specs.Matching.{IsBelowSome}
use Rattle.symbolic_ops.proofs.covering.covered.Given as goal

abbrev pub invariant-loop-s : goal.invariant-loop-s
invariant-loop-s l = AllByRecursion (λ s. IsBelowSome s l.f.symbols) (take l.s-index l.s-items) × (l.s-items ≡ l.g.symbols)
