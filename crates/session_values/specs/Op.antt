-- Operations as contracts see them: plain records, of which the type keeps a fact.
use Rattle.std.specs.Prelude.{◌≡◌, ℕ, ◌<◌, ◌==◌, Bool}
use Rattle.std.specs.Ordering.{eq_by_cmp, eq_of_both, on}
use Rattle.std.specs.Cmp.{IsEquivalence, and_equiv, eq_by_cmp_equiv, nat_eq_equiv, on_equiv}
use Rattle.session_values.specs.declared.value.Value.{Value}
use Rattle.session_values.specs.declared.value.Value.TheVariants.{Nil}
use Rattle.session_values.specs.declared.kind.Kind.{Kind}
use Rattle.session_values.specs.Kinds.{arguments, kind_place}
use Rattle.session_values.specs.Values.{IsValue, value_cmp, value_cmp_total}

-- its kind, the number of its table, its key and its value
pub record OpView : Type 0 where
  pub kind : Kind
  pub table : ℕ
  pub key : Value
  pub value : Value

-- whether two operations are the same: by kind, table, key and value
abbrev pub op_eq : OpView → OpView → Bool
op_eq = eq_of_both (on (λ o. kind_place o.kind) ◌==◌) (eq_of_both (on (λ o. o.table) ◌==◌)
    (eq_of_both (on (λ o. o.key) (eq_by_cmp value_cmp))
    (on (λ o. o.value) (eq_by_cmp value_cmp))))

-- each is the same as itself, it doesn't matter which of two is named first, and where two are the
-- same, a third is the same as both or as neither
pub op_eq_equiv : IsEquivalence op_eq
op_eq_equiv = and_equiv (on_equiv (λ o. kind_place o.kind) nat_eq_equiv)
    (and_equiv (on_equiv (λ o. o.table) nat_eq_equiv)
    (and_equiv (on_equiv (λ o. o.key) (eq_by_cmp_equiv value_cmp_total))
    (on_equiv (λ o. o.value) (eq_by_cmp_equiv value_cmp_total))))

-- its unused fields are nil
abbrev pub IsOp : Kind → Value → Value → Type 0
IsOp kind key value = (arguments kind < 1 → key ≡ Nil) × (arguments kind < 2 → value ≡ Nil)

-- a program can hold it: its key and value are such values, and its unused fields are nil
pub record IsHeld (op : OpView) : Type 0 where
  pub key : IsValue op.key
  pub value : IsValue op.value
  pub unused : IsOp op.kind op.key op.value
