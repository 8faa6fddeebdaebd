-- Symbols with the values of their variables.
use Rattle.std.specs.Prelude.{ℕ, ◌<◌, List, slice_index_or}
use Rattle.session_values.specs.declared.value.Value.{Value}
use Rattle.session_values.specs.declared.value.Value.TheVariants.{Nil}
use Rattle.symbolic_ops.specs.declared.arg.Arg.{Arg}
use Rattle.symbolic_ops.specs.declared.arg.Arg.TheVariants.{Known, Var, Any}
use Rattle.symbolic_ops.specs.declared.symbol.Symbol.{Symbol}

-- a variable is one of so many
abbrev pub ArgWithin : ℕ → Arg → Type 0
ArgWithin variables (Var x) = x < variables
ArgWithin variables (Known v) = Unit {0}
ArgWithin variables Any = Unit {0}

-- each variable of a symbol is one of so many
abbrev pub IsWithin : ℕ → Symbol → Type 0
IsWithin variables s = ArgWithin variables s.key × ArgWithin variables s.value

-- a variable becomes known to be its value
abbrev pub arg_in : List Value → Arg → Arg
arg_in env (Var x) = Known (slice_index_or env x Nil)
arg_in env (Known v) = Known v
arg_in env Any = Any

-- a symbol with each variable known to be its value
abbrev pub symbol_in : List Value → Symbol → Symbol
symbol_in env s = record {
  kind = s.kind;
  table = s.table;
  key = arg_in env s.key;
  value = arg_in env s.value;
}
