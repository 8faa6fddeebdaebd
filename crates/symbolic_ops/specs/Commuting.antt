-- When an operation, or all that a symbol stands for, commutes with all that a symbol stands for.
use Rattle.std.specs.Prelude.{List}
use Rattle.session_values.specs.declared.op.Op.{Op}
use Rattle.session_values.specs.Commuting.{Commute}
use Rattle.symbolic_ops.specs.declared.symbol.Symbol.{Symbol}
use Rattle.symbolic_ops.specs.Matching.{StandsFor, Matches}

-- the operation commutes with every operation that the symbol stands for
pub record CommutesWith (a : Op) (s : Symbol) : Type 0 where
  pub each : (b : Op) → StandsFor s b → Commute a b

-- the operation commutes with every operation that some symbol of the list stands for
pub record CommutesWithAll (a : Op) (f : List Symbol) : Type 0 where
  pub each : (b : Op) → Matches f b → Commute a b

-- every operation that s stands for commutes with every operation that t stands for
pub record SymbolsCommute (s t : Symbol) : Type 0 where
  pub each : (a b : Op) → StandsFor s a → StandsFor t b → Commute a b
