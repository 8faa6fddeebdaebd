-- Symbols whose variables may hold any value. Only this crate's own functions cite it.
use Rattle.std.specs.Prelude.{◌≡◌, ◌≢◌, Bool, true, false, ◌==◌, if◌then◌else◌}
use Rattle.session_values.specs.declared.value.Value.{Value}
use Rattle.session_values.specs.Kinds.{is_keyed}
use Rattle.symbolic_ops.specs.declared.symbol.Symbol.{Symbol}
use Rattle.symbolic_ops.specs.Commuting.{SymbolsCommute}
use Rattle.waiting_pairs.specs.Delays.{Delays}
use Rattle.symbolic_ops.specs.declared.arg.Arg.{Arg}
use Rattle.symbolic_ops.specs.declared.arg.Arg.TheVariants.{Known, Var, Any}

-- both are one variable
abbrev pub are_tied : Arg → Arg → Bool
are_tied (Var x) (Var y) = x == y
are_tied (Var x) (Known v) = false
are_tied (Var x) Any = false
are_tied (Known v) b = false
are_tied Any b = false

-- key and value are one variable
abbrev pub is_tied : Symbol → Bool
is_tied s = are_tied s.key s.value

-- a variable may hold any value
abbrev pub opened_arg : Arg → Arg
opened_arg (Known v) = Known v
opened_arg (Var x) = Any
opened_arg Any = Any

-- where key and value are one variable, it holds this value; else each may hold any value
abbrev pub opened : Symbol → Value → Symbol
opened s v = record {
  kind = s.kind;
  table = s.table;
  key = if is_tied s then Known v else opened_arg s.key;
  value = if is_tied s then Known v else opened_arg s.value;
}

-- both are known, and not the same
abbrev pub AreOthers : Arg → Arg → Type 0
AreOthers (Known v) (Known w) = v ≢ w
AreOthers (Known v) (Var y) = ⊥
AreOthers (Known v) Any = ⊥
AreOthers (Var x) b = ⊥
AreOthers Any b = ⊥

-- both are of keys, and the keys are known and not the same
abbrev pub HaveOtherKeys : Symbol → Symbol → Type 0
HaveOtherKeys s o = (is_keyed s.kind ≡ true) × (is_keyed o.kind ≡ true) × AreOthers s.key o.key

-- all that they stand for commutes, where a variable that stands twice holds this value
abbrev pub CommuteWith : Symbol → Symbol → Value → Type 0
CommuteWith s o k = SymbolsCommute (opened s k) (opened o k)

-- they delay one another if r is true, and else they commute with this value
pub record Tells (s o : Symbol) (k : Value) (r : Bool) : Type 0 where
  pub delays : r ≡ true → Delays s o
  pub commute : r ≡ false → CommuteWith s o k
