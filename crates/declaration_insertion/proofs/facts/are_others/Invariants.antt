use Rattle.std.proofs.Common.{take}
use Rattle.std.specs.List.{AllByRecursion}
use Rattle.declaration_insertion.specs.Facts.{IsOther}
use Rattle.declaration_insertion.proofs.facts.are_others.Given as goal

abbrev pub invariant-loop-t : goal.invariant-loop-t
invariant-loop-t l = AllByRecursion (λ t. IsOther t l.s) (take l.t-index l.list)
