-- Values by a list and by a function.
use Rattle.std.proofs.Common.{◌≡◌, List, [], ◌∷◌, map, refl, ap, ◌∙◌}
use Rattle.session_values.specs.declared.value.Value.{Value}
use Rattle.symbolic_ops.specs.declared.arg.Arg.{Arg}
use Rattle.symbolic_ops.specs.declared.arg.Arg.TheVariants.{Known, Var, Any}
use Rattle.symbolic_ops.specs.declared.symbol.Symbol.{Symbol}
use Rattle.symbolic_ops.specs.Instantiate.{arg_in, symbol_in}
use Rattle.handler_check.specs.Dialogue.{env_of}
use Rattle.declaration_insertion.specs.Promises.{arg_at, symbol_at}

arg_same : (values : List Value) (a : Arg) → arg_in values a ≡ arg_at (env_of values) a
arg_same values (Known v) = refl
arg_same values (Var x) = refl
arg_same values Any = refl

symbol_same : (values : List Value) (s : Symbol) → symbol_in values s ≡ symbol_at (env_of values) s
symbol_same values s =
    ap (λ (a : Arg). record { kind = s.kind; table = s.table; key = a; value = arg_in values s.value }) (arg_same values s.key)
    ∙ ap (λ (a : Arg). record { kind = s.kind; table = s.table; key = arg_at (env_of values) s.key; value = a }) (arg_same values s.value)

pub instantiated : (values : List Value) (list : List Symbol) → map (symbol_in values) list ≡ map (symbol_at (env_of values)) list
instantiated values [] = refl
instantiated values (s ∷ list) =
    ap (λ (z : Symbol). z ∷ map (symbol_in values) list) (symbol_same values s) ∙ ap (λ (zs : List Symbol). symbol_at (env_of values) s ∷ zs) (instantiated values list)
