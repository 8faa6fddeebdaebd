-- Symbols, and the operations that they stand for.
use Rattle.std.specs.Prelude.{◌≡◌, List, [], ◌∷◌, ◌⊎◌}
use Rattle.std.specs.List.{AllByRecursion}
use Rattle.session_values.specs.declared.value.Value.{Value}
use Rattle.session_values.specs.declared.op.Op.{Op}
use Rattle.session_values.specs.Op.{IsHeld}
use Rattle.symbolic_ops.specs.declared.arg.Arg.{Arg}
use Rattle.symbolic_ops.specs.declared.arg.Arg.TheVariants.{Known, Var, Any}
use Rattle.symbolic_ops.specs.declared.symbol.Symbol.{Symbol}

-- an argument agrees with a value
abbrev pub Agrees : Arg → Value → Type 0
Agrees (Known w) v = w ≡ v
Agrees (Var x) v = ⊥
Agrees Any v = Unit {0}

-- the symbol stands for the operation, which is one that a program can hold
pub record StandsFor (s : Symbol) (op : Op) : Type 0 where
  pub held : IsHeld op
  pub kind : s.kind ≡ op.kind
  pub table : s.table ≡ op.table
  pub key : Agrees s.key op.key
  pub value : Agrees s.value op.value

-- an argument is no variable
abbrev pub IsNoVar : Arg → Type 0
IsNoVar (Var x) = ⊥
IsNoVar (Known v) = Unit {0}
IsNoVar Any = Unit {0}

-- neither argument is a variable
abbrev pub HasNoVar : Symbol → Type 0
HasNoVar s = IsNoVar s.key × IsNoVar s.value

-- some symbol of the list stands for the operation
abbrev pub Matches : List Symbol → Op → Type 0
Matches [] op = ⊥
Matches (s ∷ f) op = StandsFor s op ⊎ Matches f op

-- an argument agrees with each value that another one agrees with: it is Any, or the same Known
abbrev pub ArgBelow : Arg → Arg → Type 0
ArgBelow a Any = Unit {0}
ArgBelow (Known v) (Known w) = v ≡ w
ArgBelow (Var x) (Known w) = ⊥
ArgBelow Any (Known w) = ⊥
ArgBelow a (Var x) = ⊥

-- g is below s: same kind and table, and each argument of s is Any or the same Known as g's
pub record Below (g s : Symbol) : Type 0 where
  pub kind : g.kind ≡ s.kind
  pub table : g.table ≡ s.table
  pub key : ArgBelow g.key s.key
  pub value : ArgBelow g.value s.value

-- g is below some symbol of the list
abbrev pub IsBelowSome : Symbol → List Symbol → Type 0
IsBelowSome g [] = ⊥
IsBelowSome g (s ∷ f) = Below g s ⊎ IsBelowSome g f

-- each symbol of g is below some symbol of f
abbrev pub Covered : List Symbol → List Symbol → Type 0
Covered g f = AllByRecursion (λ s. IsBelowSome s f) g

-- the symbol that stands for this operation alone
abbrev pub exact_symbol : Op → Symbol
exact_symbol op = record {
  kind = op.kind;
  table = op.table;
  key = Known op.key;
  value = Known op.value;
}
