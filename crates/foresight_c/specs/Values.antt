-- Values and symbols as C has them.
use Rattle.std.specs.Prelude.{ℕ, pos}
use Rattle.session_values.specs.Kinds.{kind_place}
use Rattle.session_values.specs.declared.value.Value.{Value}
use Rattle.session_values.specs.declared.value.Value.TheVariants.{Nil, Num, Sym}
use Rattle.symbolic_ops.specs.declared.arg.Arg.{Arg}
use Rattle.symbolic_ops.specs.declared.arg.Arg.TheVariants.{Known, Var, Any}
use Rattle.symbolic_ops.specs.declared.symbol.Symbol.{Symbol}
use Rattle.foresight_c.specs.declared.values.COperation.{COperation}
use Rattle.foresight_c.specs.declared.values.CValue.{CValue}

-- a value as C has it
abbrev pub told_value : Value → CValue
told_value Nil = record { sort = 0; name = 0; number = pos 0 }
told_value (Num z) = record { sort = 1; name = 0; number = z }
told_value (Sym p) = record { sort = 2; name = p; number = pos 0 }

-- an argument of a symbol as C has it; an open ticket's symbols have no variable
abbrev pub told_arg : Arg → CValue
told_arg (Known v) = told_value v
told_arg (Var x) = record { sort = 3; name = 0; number = pos 0 }
told_arg Any = record { sort = 3; name = 0; number = pos 0 }

-- a symbol as C has it
abbrev pub told_symbol : Symbol → COperation
told_symbol s = record {
  kind = kind_place s.kind;
  table = s.table;
  key = told_arg s.key;
  value = told_arg s.value;
}
