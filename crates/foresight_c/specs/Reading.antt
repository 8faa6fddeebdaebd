-- What C means by its numbers.
use Rattle.std.specs.Prelude.{◌≡◌, ◌≢◌, ℕ, ◌<◌, ◌≤◌, ◌⊎◌}
use Rattle.session_values.specs.declared.kind.Kind.{Kind}
use Rattle.session_values.specs.declared.op.Op.{Op}
use Rattle.session_values.specs.declared.value.Value.{Value}
use Rattle.session_values.specs.declared.value.Value.TheVariants.{Nil, Num, Sym}
use Rattle.session_values.specs.Kinds.{arguments, kind_place}
use Rattle.symbolic_ops.specs.declared.arg.Arg.{Arg}
use Rattle.symbolic_ops.specs.declared.arg.Arg.TheVariants.{Known, Var, Any}
use Rattle.symbolic_ops.specs.declared.symbol.Symbol.{Symbol}
use Rattle.foresight_c.specs.declared.values.COperation.{COperation}
use Rattle.foresight_c.specs.declared.values.CValue.{CValue}

-- the value is the one that C gives
abbrev pub IsValueOf : CValue → Value → Type 0
IsValueOf g Nil = g.sort ≡ 0
IsValueOf g (Num z) = (g.sort ≡ 1) × (z ≡ g.number)
IsValueOf g (Sym p) = (g.sort ≡ 2) × (p ≡ g.name)

-- the argument is the one that C gives
abbrev pub IsArgOf : CValue → Arg → Type 0
IsArgOf g (Known v) = IsValueOf g v
IsArgOf g (Var x) = ⊥
IsArgOf g Any = g.sort ≡ 3

-- the operation is the one that C gives
pub record IsOperationOf (g : COperation) (op : Op) : Type 0 where
  pub kind : kind_place op.kind ≡ g.kind
  pub table : op.table ≡ g.table
  pub key : IsValueOf g.key op.key
  pub value : IsValueOf g.value op.value

-- the symbol is the one that C gives
pub record IsSymbolOf (g : COperation) (s : Symbol) : Type 0 where
  pub kind : kind_place s.kind ≡ g.kind
  pub table : s.table ≡ g.table
  pub key : IsArgOf g.key s.key
  pub value : IsArgOf g.value s.value

-- the kind has no use for a field that isn't nil
pub record HasUnused (g : COperation) : Type 0 where
  pub kind : Kind
  pub is : kind_place kind ≡ g.kind
  pub unused : ((arguments kind < 1) × (g.key.sort ≢ 0))
      ⊎ ((arguments kind < 2) × (g.value.sort ≢ 0))

-- C gives nothing that is meant: there is no such kind, or no such sort of values, of which there
-- are so many, or a field is unused that isn't nil
abbrev pub IsUnread : ℕ → COperation → Type 0
IsUnread sorts g = ((11 ≤ g.kind) ⊎ HasUnused g) ⊎ ((sorts ≤ g.key.sort) ⊎ (sorts ≤ g.value.sort))
