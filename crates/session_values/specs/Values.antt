-- The order of values.
use Rattle.std.specs.Prelude.{◌≡◌, ◌<◌, ◌^◌, pos, negsuc, Bool, refl}
use Rattle.std.specs.declared.cmp.Ordering.{Ordering}
use Rattle.std.specs.declared.cmp.Ordering.TheVariants.{Less, Equal, Greater}
use Rattle.std.specs.Ordering.{nat_cmp, int_cmp, is_eq, ordering_reverse}
use Rattle.std.specs.Cmp.{IsTotalOrder, nat_cmp_total, int_cmp_total}
use Rattle.std.specs.FinMap.{IsAntisymmetric, nat_cmp-IsAntisymmetric, int_cmp-IsAntisymmetric}
use Rattle.session_values.specs.declared.value.Value.{Value}
use Rattle.session_values.specs.declared.value.Value.TheVariants.{Nil, Num, Sym}

-- nil first, then the numbers by size, then the symbols by place
abbrev pub value_cmp : Value → Value → Ordering
value_cmp Nil Nil = Equal
value_cmp Nil (Num y) = Less
value_cmp Nil (Sym q) = Less
value_cmp (Num x) Nil = Greater
value_cmp (Num x) (Num y) = int_cmp x y
value_cmp (Num x) (Sym q) = Less
value_cmp (Sym p) Nil = Greater
value_cmp (Sym p) (Num y) = Greater
value_cmp (Sym p) (Sym q) = nat_cmp p q

-- whether two values are the same
abbrev pub value_eq : Value → Value → Bool
value_eq v w = is_eq (value_cmp v w)

value_cmp_antisymm : (x y : Value) → value_cmp x y ≡ ordering_reverse (value_cmp y x)
value_cmp_antisymm Nil Nil = refl
value_cmp_antisymm Nil (Num y) = refl
value_cmp_antisymm Nil (Sym q) = refl
value_cmp_antisymm (Num x) Nil = refl
value_cmp_antisymm (Num x) (Num y) = int_cmp_total.antisymm x y
value_cmp_antisymm (Num x) (Sym q) = refl
value_cmp_antisymm (Sym p) Nil = refl
value_cmp_antisymm (Sym p) (Num y) = refl
value_cmp_antisymm (Sym p) (Sym q) = nat_cmp_total.antisymm p q

value_cmp_trans : (x y z : Value) → value_cmp x y ≡ Less → value_cmp y z ≡ Less
    → value_cmp x z ≡ Less
value_cmp_trans Nil Nil z e f = f
value_cmp_trans Nil (Num y) Nil e f = cc
value_cmp_trans Nil (Num y) (Num z) e f = refl
value_cmp_trans Nil (Num y) (Sym z) e f = refl
value_cmp_trans Nil (Sym y) Nil e f = cc
value_cmp_trans Nil (Sym y) (Num z) e f = refl
value_cmp_trans Nil (Sym y) (Sym z) e f = refl
value_cmp_trans (Num x) Nil z e f = cc
value_cmp_trans (Num x) (Num y) Nil e f = f
value_cmp_trans (Num x) (Num y) (Num z) e f = int_cmp_total.trans x y z e f
value_cmp_trans (Num x) (Num y) (Sym z) e f = refl
value_cmp_trans (Num x) (Sym y) Nil e f = cc
value_cmp_trans (Num x) (Sym y) (Num z) e f = cc
value_cmp_trans (Num x) (Sym y) (Sym z) e f = refl
value_cmp_trans (Sym x) Nil z e f = cc
value_cmp_trans (Sym x) (Num y) z e f = cc
value_cmp_trans (Sym x) (Sym y) Nil e f = f
value_cmp_trans (Sym x) (Sym y) (Num z) e f = f
value_cmp_trans (Sym x) (Sym y) (Sym z) e f = nat_cmp_total.trans x y z e f

-- only a value itself ties with it
pub value_cmp-IsAntisymmetric : IsAntisymmetric value_cmp
value_cmp-IsAntisymmetric Nil Nil e = refl
value_cmp-IsAntisymmetric Nil (Num y) e = cc
value_cmp-IsAntisymmetric Nil (Sym q) e = cc
value_cmp-IsAntisymmetric (Num x) Nil e = cc
value_cmp-IsAntisymmetric (Num x) (Num y) e = λ i. Num (int_cmp-IsAntisymmetric x y e i)
value_cmp-IsAntisymmetric (Num x) (Sym q) e = cc
value_cmp-IsAntisymmetric (Sym p) Nil e = cc
value_cmp-IsAntisymmetric (Sym p) (Num y) e = cc
value_cmp-IsAntisymmetric (Sym p) (Sym q) e = λ i. Sym (nat_cmp-IsAntisymmetric p q e i)

pub value_cmp_total : IsTotalOrder value_cmp
value_cmp_total = record {
  antisymm = value_cmp_antisymm;
  trans = value_cmp_trans;
  congr = λ x y z e i. value_cmp (value_cmp-IsAntisymmetric x y e i) z;
}

-- a value that a program can hold: its number is in the range of i64, its place in that of u32
abbrev pub IsValue : Value → Type 0
IsValue Nil = Unit {0}
IsValue (Num (pos n)) = n < 2 ^ 63
IsValue (Num (negsuc n)) = n < 2 ^ 63
IsValue (Sym p) = p < 2 ^ 32
