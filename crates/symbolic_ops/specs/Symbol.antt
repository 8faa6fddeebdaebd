-- Symbols as contracts see them: plain records, of which the type keeps a fact.
use Rattle.std.specs.Prelude.{◌≡◌, ℕ, ◌<◌}
use Rattle.session_values.specs.declared.value.Value.TheVariants.{Nil}
use Rattle.session_values.specs.Values.{IsValue}
use Rattle.session_values.specs.declared.kind.Kind.{Kind}
use Rattle.session_values.specs.Kinds.{arguments}
use Rattle.symbolic_ops.specs.declared.arg.Arg.{Arg}
use Rattle.symbolic_ops.specs.declared.arg.Arg.TheVariants.{Known, Var, Any}

-- its kind, the number of its table, and its two arguments
pub record SymbolView : Type 0 where
  pub kind : Kind
  pub table : ℕ
  pub key : Arg
  pub value : Arg

-- its unused arguments are known to be nil
abbrev pub IsSymbol : Kind → Arg → Arg → Type 0
IsSymbol kind key value = (arguments kind < 1 → key ≡ Known Nil)
    × (arguments kind < 2 → value ≡ Known Nil)

-- a known argument is a value that a program can hold
abbrev pub IsHeldArg : Arg → Type 0
IsHeldArg (Known v) = IsValue v
IsHeldArg (Var x) = Unit {0}
IsHeldArg Any = Unit {0}

-- a program can hold it: what it knows are such values, and its unused arguments are known to be
-- nil
pub record IsHeldSymbol (s : SymbolView) : Type 0 where
  pub key : IsHeldArg s.key
  pub value : IsHeldArg s.value
  pub unused : IsSymbol s.kind s.key s.value
