-- What contracts see of a foresight.
use Rattle.std.specs.Prelude.{ℕ, List}
use Rattle.symbolic_ops.specs.declared.symbol.Symbol.{Symbol}

-- its symbols, and how many it has room for
pub record ForesightView : Type 0 where
  pub symbols : List Symbol
  pub room : ℕ
