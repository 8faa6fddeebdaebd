-- Values, maps and sets that are the same.
use Rattle.std.proofs.Common.{◌≡◌, Bool, true, false, refl, sym, ap, subst}
use Rattle.std.specs.Cmp.{Equal-is, tied_itself}
use Rattle.std.specs.Ordering.{is_eq}
use Rattle.std.specs.FinMap as map
use Rattle.std.specs.FinSet as set
use Rattle.session_values.specs.declared.value.Value.{Value}
use Rattle.session_values.specs.Values.{value_cmp, value_eq, value_cmp_total, value_cmp-IsAntisymmetric}

-- a value is the same as itself, and as no other
pub same_value : (v w : Value) → value_eq v w ≡ true → v ≡ w
same_value v w e = value_cmp-IsAntisymmetric v w ((Equal-is (value_cmp v w)).0 e)

pub value_eq-self : (v : Value) → value_eq v v ≡ true
value_eq-self v = ap is_eq (tied_itself value_cmp_total v)

pub not_same : (v w : Value) → value_eq v w ≡ false → v ≡ w → ⊥
not_same v w e h = let P : Value → Type 0 = λ x. value_eq v x ≡ false in let q : value_eq v v ≡ false = subst P (sym h) e in both_ways (value_eq v v) (value_eq-self v) q
  where
    both_ways : (b : Bool) → b ≡ true → b ≡ false → ⊥
    both_ways b p q = cc

pub value_eq-sym : (v w : Value) → value_eq v w ≡ false → value_eq w v ≡ false
value_eq-sym v w h = go (value_eq w v) refl
  where
    go : (b : Bool) → value_eq w v ≡ b → value_eq w v ≡ false
    go true e = absurd (not_same v w h (sym (same_value w v e)))
    go false e = e

pub same_map : (m n : map.FinMap value_cmp Value) → ((q : Value) → map.get m q ≡ map.get n q) → m ≡ n
same_map = map.same_map value_cmp_total value_cmp-IsAntisymmetric

pub same_set : (s t : set.FinSet value_cmp) → ((q : Value) → set.contains s q ≡ set.contains t q) → s ≡ t
same_set = set.same_set value_cmp_total value_cmp-IsAntisymmetric
