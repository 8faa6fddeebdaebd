-- What symbols and causes are looked up by.
use Rattle.std.specs.Prelude.{ℕ, pos, Bool, List, ◌++◌}
use Rattle.std.specs.Hash as fed
use Rattle.session_values.specs.declared.value.Value.{Value}
use Rattle.session_values.specs.declared.value.Value.TheVariants.{Num}
use Rattle.session_values.specs.contracts.value.ValueHash.TheImpl as derived
use Rattle.symbolic_ops.specs.declared.arg.Arg.{Arg}
use Rattle.symbolic_ops.specs.declared.arg.Arg.TheVariants.{Known, Var, Any}
use Rattle.symbolic_ops.specs.Order.{symbol_eq}
use Rattle.waiting_pairs.specs.declared.sought.Sought.{Sought}

-- an argument's value, and 0 where none is known
abbrev pub known_or_zero : Arg → Value
known_or_zero (Known v) = v
known_or_zero (Var x) = Num (pos 0)
known_or_zero Any = Num (pos 0)

-- of a value
abbrev pub hash_value : Value → List (List ℕ)
hash_value = (derived.ghosts).hash_input

-- whether both are the same symbol
abbrev pub is_sought : Sought → Sought → Bool
is_sought a b = symbol_eq a.symbol b.symbol

-- of a symbol; those that are the same have the same
abbrev pub sought_input : Sought → List (List ℕ)
sought_input s =
    fed.u32 s.symbol.table ++ hash_value (known_or_zero s.symbol.key)
    ++ hash_value (known_or_zero s.symbol.value)
