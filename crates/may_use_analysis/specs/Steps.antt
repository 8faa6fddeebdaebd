-- The steps of a handler, and what a symbol was before a step.
use Rattle.std.specs.Prelude.{ℕ, Bool, true, false, if◌then◌else◌, ◌==◌, nat_lt}
use Rattle.session_values.specs.declared.value.Value.{Value}
use Rattle.session_values.specs.declared.value.Value.TheVariants.{Nil}
use Rattle.session_values.specs.Kinds.{arguments}
use Rattle.symbolic_ops.specs.declared.arg.Arg.{Arg}
use Rattle.symbolic_ops.specs.declared.arg.Arg.TheVariants.{Known, Var, Any}
use Rattle.symbolic_ops.specs.declared.symbol.Symbol.{Symbol}
use Rattle.check_meaning.specs.declared.tree.CheckedAtom.{CheckedAtom}
use Rattle.check_meaning.specs.declared.tree.CheckedAtom.TheVariants as atom
use Rattle.check_meaning.specs.declared.tree.CheckedCall.{CheckedCall}
use Rattle.check_meaning.specs.Code.{Term, Atom, Calculate}

-- a step: x becomes a copy of y, a constant or something else; an operation; the end
pub data Step : Type 0 where
  Copy : (x y : ℕ) → Step
  Constant : (x : ℕ) (v : Value) → Step
  Other : (x : ℕ) → Step
  Call : (c : CheckedCall) → Step
  End : Step

-- what a store of this right side is
abbrev pub store_step : ℕ → Term → Step
store_step x (Atom (atom.Lit v)) = Constant x v
store_step x (Atom (atom.Var y)) = Copy x y
store_step x (Calculate calc l r) = Other x

-- ---- symbols

-- an argument as it stands in the text; one that the operation doesn't have is known to be nil
abbrev pub argument : Bool → CheckedAtom → Arg
argument true (atom.Lit v) = Known v
argument true (atom.Var x) = Var x
argument false a = Known Nil

-- the symbol of an operation, as it stands in the text
abbrev pub symbol_of : CheckedCall → Symbol
symbol_of c = record {
  kind = c.kind;
  table = c.table;
  key = argument (nat_lt 0 (arguments c.kind)) c.key;
  value = argument (nat_lt 1 (arguments c.kind)) c.value;
}

-- ---- carrying back

-- what a variable was before the step, where it is this variable after it
abbrev pub before_step : Step → ℕ → Arg
before_step (Copy x y) z = if z == x then Var y else Var z
before_step (Constant x v) z = if z == x then Known v else Var z
before_step (Other x) z = if z == x then Any else Var z
before_step (Call c) z = Var z
before_step End z = Var z

-- an argument carried back over a step
abbrev pub arg_back : Step → Arg → Arg
arg_back step (Known v) = Known v
arg_back step (Var z) = before_step step z
arg_back step Any = Any

-- a symbol carried back over a step
abbrev pub back : Step → Symbol → Symbol
back step s = record {
  kind = s.kind;
  table = s.table;
  key = arg_back step s.key;
  value = arg_back step s.value;
}
