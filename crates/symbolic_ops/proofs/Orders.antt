-- The orders are total, and what they count as equal is the same.
use Rattle.std.proofs.Common.{◌≡◌, refl, sym, ap, ◌∙◌}
use Rattle.std.specs.declared.cmp.Ordering.{Ordering}
use Rattle.std.specs.declared.cmp.Ordering.TheVariants.{Less, Equal, Greater}
use Rattle.std.specs.Ordering.{nat_cmp, ordering_then, ordering_reverse}
use Rattle.std.specs.Cmp.{IsTotalOrder}
use Rattle.std.proofs.lemmas.Cmp.{nat_cmp_total, on_total, then_total}
use Rattle.std.specs.FinMap.{nat_cmp-IsAntisymmetric}
use Rattle.session_values.specs.Kinds.{kind_cmp, kind_place}
use Rattle.session_values.proofs.KindLemmas.{one_place}
use Rattle.symbolic_ops.specs.Order.{arg_cmp, arg_cmp_total, arg_exact, symbol_cmp}
use Rattle.symbolic_ops.specs.declared.symbol.Symbol.{Symbol}

pub symbol_cmp_total : IsTotalOrder symbol_cmp
symbol_cmp_total =
    then_total (on_total (λ (s : Symbol). s.table) nat_cmp_total) (then_total (on_total (λ (s : Symbol). s.kind) (on_total kind_place nat_cmp_total)) (then_total (on_total (λ (s : Symbol). s.key) arg_cmp_total) (on_total (λ (s : Symbol). s.value) arg_cmp_total)))

-- both parts of an equal answer are equal
then_equal : (o p : Ordering) → ordering_then o p ≡ Equal → (o ≡ Equal) × (p ≡ Equal)
then_equal Less p e = absurd (cc e)
then_equal Equal p e = (refl, e)
then_equal Greater p e = absurd (cc e)

pub symbol_exact : (a b : Symbol) → symbol_cmp a b ≡ Equal → a ≡ b
symbol_exact a b e =
    let first = then_equal (nat_cmp a.table b.table) _ e in
    let second = then_equal (kind_cmp a.kind b.kind) _ first.1 in
    let third = then_equal (arg_cmp a.key b.key) (arg_cmp a.value b.value) second.1 in
    let t : a.table ≡ b.table = nat_cmp-IsAntisymmetric a.table b.table first.0 in
    let k : a.kind ≡ b.kind = one_place a.kind b.kind (nat_cmp-IsAntisymmetric (kind_place a.kind) (kind_place b.kind) second.0) in
    let x : a.key ≡ b.key = arg_exact a.key b.key third.0 in
    let y : a.value ≡ b.value = arg_exact a.value b.value third.1 in
    λ i. record { kind = k i; table = t i; key = x i; value = y i }

-- no symbol is before itself
pub not_before : (s : Symbol) → symbol_cmp s s ≡ Less → ⊥
not_before s e = absurd (cc (sym e ∙ symbol_cmp_total.antisymm s s ∙ ap ordering_reverse e))
