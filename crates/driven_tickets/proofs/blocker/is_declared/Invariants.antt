use Rattle.std.proofs.Common.{take}
use Rattle.symbolic_ops.specs.Matching.{Matches}
use Rattle.driven_tickets.proofs.blocker.is_declared.Given as goal

abbrev pub invariant-loop-s : goal.invariant-loop-s
invariant-loop-s l = Matches (take l.s-index l.list) l.op → ⊥
