use Rattle.std.proofs.Common.{take}
use Rattle.std.specs.List.{AllByRecursion}
use Rattle.symbolic_ops.specs.Commuting.{CommutesWith}
use Rattle.driven_tickets.proofs.blocker.is_free.Given as goal

abbrev pub invariant-loop-s : goal.invariant-loop-s
invariant-loop-s l = AllByRecursion (λ y. CommutesWith l.op y) (take l.s-index l.list)
