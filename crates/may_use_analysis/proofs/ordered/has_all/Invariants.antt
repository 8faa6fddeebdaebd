use Rattle.std.proofs.Common.{Contains, take}
use Rattle.symbolic_ops.specs.declared.symbol.Symbol.{Symbol}
use Rattle.may_use_analysis.proofs.ordered.has_all.Given as goal

abbrev pub invariant-loop-s : goal.invariant-loop-s
invariant-loop-s l = (s : Symbol) → Contains (take l.s-index l.more) s → Contains l.list s
