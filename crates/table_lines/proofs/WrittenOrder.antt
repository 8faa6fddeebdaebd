-- The order of what is written is total, and only equals tie.
use Rattle.std.proofs.Common.{◌≡◌, refl, ap}
use Rattle.std.proofs.lemmas.Cmp.{nat_list_cmp_total}
use Rattle.std.specs.Cmp.{IsTotalOrder, int_cmp_total}
use Rattle.std.specs.FinMap.{IsAntisymmetric, int_cmp-IsAntisymmetric, nat_cmp-IsAntisymmetric, slice_cmp-IsAntisymmetric}
use Rattle.std.specs.Ordering.{ordering_reverse}
use Rattle.std.specs.declared.cmp.Ordering.TheVariants.{Less}
use Rattle.table_lines.specs.Written.{Written, NilWord, NumberWord, SymbolWord, written_cmp}

written_cmp_antisymm : (x y : Written) → written_cmp x y ≡ ordering_reverse (written_cmp y x)
written_cmp_antisymm NilWord NilWord = refl
written_cmp_antisymm NilWord (NumberWord y) = refl
written_cmp_antisymm NilWord (SymbolWord y) = refl
written_cmp_antisymm (NumberWord x) NilWord = refl
written_cmp_antisymm (NumberWord x) (NumberWord y) = int_cmp_total.antisymm x y
written_cmp_antisymm (NumberWord x) (SymbolWord y) = refl
written_cmp_antisymm (SymbolWord x) NilWord = refl
written_cmp_antisymm (SymbolWord x) (NumberWord y) = refl
written_cmp_antisymm (SymbolWord x) (SymbolWord y) = nat_list_cmp_total.antisymm x y

written_cmp_trans : (x y z : Written) → written_cmp x y ≡ Less → written_cmp y z ≡ Less → written_cmp x z ≡ Less
written_cmp_trans NilWord NilWord z e f = f
written_cmp_trans NilWord (NumberWord y) NilWord e f = cc
written_cmp_trans NilWord (NumberWord y) (NumberWord z) e f = refl
written_cmp_trans NilWord (NumberWord y) (SymbolWord z) e f = refl
written_cmp_trans NilWord (SymbolWord y) NilWord e f = cc
written_cmp_trans NilWord (SymbolWord y) (NumberWord z) e f = refl
written_cmp_trans NilWord (SymbolWord y) (SymbolWord z) e f = refl
written_cmp_trans (NumberWord x) NilWord z e f = cc
written_cmp_trans (NumberWord x) (NumberWord y) NilWord e f = f
written_cmp_trans (NumberWord x) (NumberWord y) (NumberWord z) e f = int_cmp_total.trans x y z e f
written_cmp_trans (NumberWord x) (NumberWord y) (SymbolWord z) e f = refl
written_cmp_trans (NumberWord x) (SymbolWord y) NilWord e f = cc
written_cmp_trans (NumberWord x) (SymbolWord y) (NumberWord z) e f = cc
written_cmp_trans (NumberWord x) (SymbolWord y) (SymbolWord z) e f = refl
written_cmp_trans (SymbolWord x) NilWord z e f = cc
written_cmp_trans (SymbolWord x) (NumberWord y) z e f = cc
written_cmp_trans (SymbolWord x) (SymbolWord y) NilWord e f = f
written_cmp_trans (SymbolWord x) (SymbolWord y) (NumberWord z) e f = f
written_cmp_trans (SymbolWord x) (SymbolWord y) (SymbolWord z) e f = nat_list_cmp_total.trans x y z e f

pub written_cmp_exact : IsAntisymmetric written_cmp
written_cmp_exact NilWord NilWord e = refl
written_cmp_exact NilWord (NumberWord y) e = cc
written_cmp_exact NilWord (SymbolWord y) e = cc
written_cmp_exact (NumberWord x) NilWord e = cc
written_cmp_exact (NumberWord x) (NumberWord y) e = ap NumberWord (int_cmp-IsAntisymmetric x y e)
written_cmp_exact (NumberWord x) (SymbolWord y) e = cc
written_cmp_exact (SymbolWord x) NilWord e = cc
written_cmp_exact (SymbolWord x) (NumberWord y) e = cc
written_cmp_exact (SymbolWord x) (SymbolWord y) e = ap SymbolWord (slice_cmp-IsAntisymmetric nat_cmp-IsAntisymmetric x y e)

pub written_cmp_total : IsTotalOrder written_cmp
written_cmp_total = record {
  antisymm = written_cmp_antisymm;
  trans = written_cmp_trans;
  congr = λ x y z e i. written_cmp (written_cmp_exact x y e i) z;
}
