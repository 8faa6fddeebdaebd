-- The order of arguments and of symbols.
use Rattle.std.specs.Prelude.{◌≡◌, Bool, ◌==◌, refl}
use Rattle.std.specs.declared.cmp.Ordering.{Ordering}
use Rattle.std.specs.declared.cmp.Ordering.TheVariants.{Less, Equal, Greater}
use Rattle.std.specs.Ordering.{nat_cmp, eq_by_cmp, eq_of_both, on, ordering_reverse, then_cmp}
use Rattle.std.specs.Cmp.{IsEquivalence, IsTotalOrder, and_equiv, eq_by_cmp_equiv, nat_cmp_total, nat_eq_equiv, on_equiv}
use Rattle.std.specs.FinMap.{IsAntisymmetric, nat_cmp-IsAntisymmetric}
use Rattle.session_values.specs.Kinds.{kind_cmp, kind_place}
use Rattle.session_values.specs.Values.{value_cmp, value_cmp_total, value_cmp-IsAntisymmetric}
use Rattle.symbolic_ops.specs.declared.arg.Arg.{Arg}
use Rattle.symbolic_ops.specs.declared.arg.Arg.TheVariants.{Known, Var, Any}
use Rattle.symbolic_ops.specs.declared.symbol.Symbol.{Symbol}

-- the known ones first, by their values, then the variables by their numbers, then any
abbrev pub arg_cmp : Arg → Arg → Ordering
arg_cmp (Known v) (Known w) = value_cmp v w
arg_cmp (Known v) (Var y) = Less
arg_cmp (Known v) Any = Less
arg_cmp (Var x) (Known w) = Greater
arg_cmp (Var x) (Var y) = nat_cmp x y
arg_cmp (Var x) Any = Less
arg_cmp Any (Known w) = Greater
arg_cmp Any (Var y) = Greater
arg_cmp Any Any = Equal

arg_cmp_antisymm : (a b : Arg) → arg_cmp a b ≡ ordering_reverse (arg_cmp b a)
arg_cmp_antisymm (Known v) (Known w) = value_cmp_total.antisymm v w
arg_cmp_antisymm (Known v) (Var j) = refl
arg_cmp_antisymm (Known v) Any = refl
arg_cmp_antisymm (Var i) (Known w) = refl
arg_cmp_antisymm (Var i) (Var j) = nat_cmp_total.antisymm i j
arg_cmp_antisymm (Var i) Any = refl
arg_cmp_antisymm Any (Known w) = refl
arg_cmp_antisymm Any (Var j) = refl
arg_cmp_antisymm Any Any = refl

arg_cmp_trans : (a b c : Arg) → arg_cmp a b ≡ Less → arg_cmp b c ≡ Less → arg_cmp a c ≡ Less
arg_cmp_trans (Known v) (Known w) (Known z) e f = value_cmp_total.trans v w z e f
arg_cmp_trans (Known v) (Known w) (Var k) e f = refl
arg_cmp_trans (Known v) (Known w) Any e f = refl
arg_cmp_trans (Known v) (Var j) (Known z) e f = cc
arg_cmp_trans (Known v) (Var j) (Var k) e f = refl
arg_cmp_trans (Known v) (Var j) Any e f = refl
arg_cmp_trans (Known v) Any (Known z) e f = cc
arg_cmp_trans (Known v) Any (Var k) e f = cc
arg_cmp_trans (Known v) Any Any e f = cc
arg_cmp_trans (Var i) (Known w) (Known z) e f = cc
arg_cmp_trans (Var i) (Known w) (Var k) e f = cc
arg_cmp_trans (Var i) (Known w) Any e f = cc
arg_cmp_trans (Var i) (Var j) (Known z) e f = cc
arg_cmp_trans (Var i) (Var j) (Var k) e f = nat_cmp_total.trans i j k e f
arg_cmp_trans (Var i) (Var j) Any e f = refl
arg_cmp_trans (Var i) Any (Known z) e f = cc
arg_cmp_trans (Var i) Any (Var k) e f = cc
arg_cmp_trans (Var i) Any Any e f = cc
arg_cmp_trans Any (Known w) (Known z) e f = cc
arg_cmp_trans Any (Known w) (Var k) e f = cc
arg_cmp_trans Any (Known w) Any e f = cc
arg_cmp_trans Any (Var j) (Known z) e f = cc
arg_cmp_trans Any (Var j) (Var k) e f = cc
arg_cmp_trans Any (Var j) Any e f = cc
arg_cmp_trans Any Any (Known z) e f = cc
arg_cmp_trans Any Any (Var k) e f = cc
arg_cmp_trans Any Any Any e f = cc

-- only an argument itself ties with it
pub arg_exact : IsAntisymmetric arg_cmp
arg_exact (Known v) (Known w) e = λ i. Known (value_cmp-IsAntisymmetric v w e i)
arg_exact (Known v) (Var j) e = cc
arg_exact (Known v) Any e = cc
arg_exact (Var i) (Known w) e = cc
arg_exact (Var i) (Var j) e = λ n. Var (nat_cmp-IsAntisymmetric i j e n)
arg_exact (Var i) Any e = cc
arg_exact Any (Known w) e = cc
arg_exact Any (Var j) e = cc
arg_exact Any Any e = refl

pub arg_cmp_total : IsTotalOrder arg_cmp
arg_cmp_total = record {
  antisymm = arg_cmp_antisymm;
  trans = arg_cmp_trans;
  congr = λ a b c e i. arg_cmp (arg_exact a b e i) c;
}

-- by table, then kind, then key, then value
abbrev pub symbol_cmp : Symbol → Symbol → Ordering
symbol_cmp = then_cmp (on (λ s. s.table) nat_cmp)
    (then_cmp (on (λ s. s.kind) kind_cmp) (then_cmp (on (λ s. s.key) arg_cmp)
    (on (λ s. s.value) arg_cmp)))

-- whether two symbols are the same: by kind, table, key and value
abbrev pub symbol_eq : Symbol → Symbol → Bool
symbol_eq = eq_of_both (on (λ s. kind_place s.kind) ◌==◌) (eq_of_both (on (λ s. s.table) ◌==◌)
    (eq_of_both (on (λ s. s.key) (eq_by_cmp arg_cmp)) (on (λ s. s.value) (eq_by_cmp arg_cmp))))

-- each is the same as itself, it doesn't matter which of two is named first, and where two are the
-- same, a third is the same as both or as neither
pub symbol_eq_equiv : IsEquivalence symbol_eq
symbol_eq_equiv = and_equiv (on_equiv (λ s. kind_place s.kind) nat_eq_equiv)
    (and_equiv (on_equiv (λ s. s.table) nat_eq_equiv)
    (and_equiv (on_equiv (λ s. s.key) (eq_by_cmp_equiv arg_cmp_total))
    (on_equiv (λ s. s.value) (eq_by_cmp_equiv arg_cmp_total))))
