-- When a symbol stands for an operation that doesn't commute with another.
use Rattle.session_values.specs.declared.op.Op.{Op}
use Rattle.symbolic_ops.specs.declared.symbol.Symbol.{Symbol}
use Rattle.symbolic_ops.specs.Matching.{StandsFor}
use Rattle.commute_tables.specs.ToldApart.{Differ}

-- the symbol stands for an operation with which a doesn't commute
pub record DiffersFromSome (a : Op) (s : Symbol) : Type 0 where
  pub op : Op
  pub stands : StandsFor s op
  pub differ : Differ a op

-- s and t stand for two operations that don't commute
pub record SymbolsDiffer (s t : Symbol) : Type 0 where
  pub first : Op
  pub second : Op
  pub stands_first : StandsFor s first
  pub stands_second : StandsFor t second
  pub differ : Differ first second
