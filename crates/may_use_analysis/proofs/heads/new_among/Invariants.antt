use Rattle.std.proofs.Common.{Contains}
use Rattle.symbolic_ops.specs.declared.symbol.Symbol.{Symbol}
use Rattle.may_use_analysis.proofs.heads.new_among.Given as goal

abbrev pub invariant-loop-s : goal.invariant-loop-s
invariant-loop-s l = (q : Symbol) → Contains l.fresh q → Contains l.symbols q
