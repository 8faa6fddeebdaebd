use Rattle.std.proofs.Common.{take}
use Rattle.std.specs.List.{AllByRecursion}
use Rattle.symbolic_ops.specs.Commuting.{SymbolsCommute}
use Rattle.driven_tickets.proofs.standing.commutes_with.Given as goal

abbrev pub invariant-loop-y : goal.invariant-loop-y
invariant-loop-y l = AllByRecursion (λ y. SymbolsCommute l.s y) (take l.y-index l.list)
