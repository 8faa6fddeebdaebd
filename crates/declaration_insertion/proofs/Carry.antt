-- A symbol carried back over a step covers the symbol after it.
use Rattle.std.proofs.Common.{◌≡◌, ℕ, ◌<◌, Bool, true, false, ◌==◌, if◌then◌else◌, nat_lt, refl, sym, ap, ◌∙◌, subst, arith}
use Rattle.std.proofs.lemmas.Bool.Decides.{nat_tests}
use Rattle.session_values.specs.declared.value.Value.{Value}
use Rattle.session_values.specs.declared.value.Value.TheVariants.{Nil}
use Rattle.session_values.specs.declared.op.Op.{Op}
use Rattle.session_values.specs.Kinds.{arguments}
use Rattle.session_values.proofs.Numbers.{below_two}
use Rattle.symbolic_ops.specs.declared.arg.Arg.{Arg}
use Rattle.symbolic_ops.specs.declared.arg.Arg.TheVariants.{Known, Var, Any}
use Rattle.symbolic_ops.specs.declared.symbol.Symbol.{Symbol}
use Rattle.symbolic_ops.specs.Matching.{Agrees}
use Rattle.handler_check.specs.CheckedAtom.{CheckedAtom}
use Rattle.handler_check.specs.CheckedAtom.TheVariants as atom
use Rattle.handler_check.specs.CheckedCall.{CheckedCall}
use Rattle.handler_check.specs.Code.{Term, Atom, Calculate}
use Rattle.handler_check.specs.Dialogue.{Env, with_value, atom_value, value_of, op_of}
use Rattle.may_use_analysis.specs.Steps.{Step, Copy, Constant, Other, Call, End, store_step, argument, symbol_of, before_step, arg_back, back}
use Rattle.declaration_insertion.specs.Promises.{arg_at, symbol_at}
use Rattle.declaration_insertion.proofs.SetLaw.{IsBelowArg, IsBelow, MayStandFor}

-- an argument is below itself
below_self : (a : Arg) → IsBelowArg a a
below_self (Known v) = refl
below_self (Var x) = refl
below_self Any = tt

pub below_self_symbol : (s : Symbol) → IsBelow s s
below_self_symbol s = (refl, refl, below_self s.key, below_self s.value)

below_arg_trans : (g f h : Arg) → IsBelowArg g f → IsBelowArg f h → IsBelowArg g h
below_arg_trans g f (Known v) a b = subst (IsBelowArg g) b a
below_arg_trans g f (Var x) a b = subst (IsBelowArg g) b a
below_arg_trans g f Any a b = tt

pub below_trans : (g f h : Symbol) → IsBelow g f → IsBelow f h → IsBelow g h
below_trans g f h a b =
    (a.0 ∙ b.0, a.1 ∙ b.1, below_arg_trans g.key f.key h.key a.2 b.2, below_arg_trans g.value f.value h.value a.3 b.3)

agrees_below : (g f : Arg) (v : Value) → IsBelowArg g f → Agrees g v → Agrees f v
agrees_below g (Known w) v b a = subst (λ z. Agrees z v) b a
agrees_below g (Var x) v b a = subst (λ z. Agrees z v) b a
agrees_below g Any v b a = tt

-- a symbol above one that stands for an operation stands for it too
pub stands_below : (g f : Symbol) (op : Op) → IsBelow g f → MayStandFor g op → MayStandFor f op
stands_below g f op b may held =
    let s = may held in
    record { held = held; kind = sym b.0 ∙ s.kind; table = sym b.1 ∙ s.table; key = agrees_below g.key f.key op.key b.2 s.key; value = agrees_below g.value f.value op.value b.3 s.value }

-- what a step may do to the variables
abbrev pub StepsTo : Step → Env → Env → Type 0
StepsTo (Copy x y) env next = next ≡ with_value env x (env y)
StepsTo (Constant x v) env next = next ≡ with_value env x v
StepsTo (Other x) env next = (v : Value) × (next ≡ with_value env x v)
StepsTo (Call c) env next = next ≡ env
StepsTo End env next = next ≡ env

-- the argument at the variable of a store
at_var : (b : Bool) (a c : Value) (f g : Arg) → IsBelowArg (Known a) f → IsBelowArg (Known c) g → IsBelowArg (Known (if b then a else c)) (if b then f else g)
at_var true a c f g p q = p
at_var false a c f g p q = q

at_choice : (b : Bool) (env : Env) (f g : Arg) → arg_at env (if b then f else g) ≡ (if b then arg_at env f else arg_at env g)
at_choice true env f g = refl
at_choice false env f g = refl

var_back : (step : Step) (env next : Env) (z : ℕ) → StepsTo step env next → IsBelowArg (Known (next z)) (arg_at env (before_step step z))
var_back (Copy x y) env next z e =
    subst (λ (n : Env). IsBelowArg (Known (n z)) (arg_at env (before_step (Copy x y) z))) (sym e) (subst (IsBelowArg (Known (with_value env x (env y) z))) (sym (at_choice (z == x) env (Var y) (Var z))) (at_var (z == x) (env y) (env z) (Known (env y)) (Known (env z)) refl refl))
var_back (Constant x v) env next z e =
    subst (λ (n : Env). IsBelowArg (Known (n z)) (arg_at env (before_step (Constant x v) z))) (sym e) (subst (IsBelowArg (Known (with_value env x v z))) (sym (at_choice (z == x) env (Known v) (Var z))) (at_var (z == x) v (env z) (Known v) (Known (env z)) refl refl))
var_back (Other x) env next z e =
    subst (λ (n : Env). IsBelowArg (Known (n z)) (arg_at env (before_step (Other x) z))) (sym e.1) (subst (IsBelowArg (Known (with_value env x e.0 z))) (sym (at_choice (z == x) env Any (Var z))) (at_var (z == x) e.0 (env z) Any (Known (env z)) tt refl))
var_back (Call c) env next z e = ap (λ (n : Env). Known (n z)) e
var_back End env next z e = ap (λ (n : Env). Known (n z)) e

arg_carry : (step : Step) (env next : Env) (a : Arg) → StepsTo step env next → IsBelowArg (arg_at next a) (arg_at env (arg_back step a))
arg_carry step env next (Known v) e = refl
arg_carry step env next (Var z) e = var_back step env next z e
arg_carry step env next Any e = tt

pub carry : (step : Step) (env next : Env) (s : Symbol) → StepsTo step env next → IsBelow (symbol_at next s) (symbol_at env (back step s))
carry step env next s e = (refl, refl, arg_carry step env next s.key e, arg_carry step env next s.value e)

-- a store makes its step
pub store_steps : (x : ℕ) (e : Term) (env : Env) → StepsTo (store_step x e) env (with_value env x (value_of e env))
store_steps x (Atom (atom.Lit v)) env = refl
store_steps x (Atom (atom.Var y)) env = refl
store_steps x (Calculate calc l r) env = (_, refl)

own_arg : (has : Bool) (a : CheckedAtom) (env : Env) → (has ≡ false → atom_value a env ≡ Nil) → Agrees (arg_at env (argument has a)) (atom_value a env)
own_arg true (atom.Lit v) env none = refl
own_arg true (atom.Var x) env none = refl
own_arg false a env none = sym (none refl)

no_first : (n : ℕ) → nat_lt 0 n ≡ false → n < 1
no_first n e = grind (arith, nat_tests)

-- an operation's own symbol stands for it
pub own_stands : (c : CheckedCall) (env : Env) → MayStandFor (symbol_at env (symbol_of c)) (op_of c env)
own_stands c env held =
    record {
      held = held;
      kind = refl;
      table = refl;
      key = own_arg (nat_lt 0 (arguments c.kind)) c.key env (λ e. held.unused.0 (no_first (arguments c.kind) e));
      value = own_arg (nat_lt 1 (arguments c.kind)) c.value env (λ e. held.unused.1 (below_two (arguments c.kind) e));
    }
