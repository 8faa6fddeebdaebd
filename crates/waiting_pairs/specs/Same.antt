-- Causes that are the same are equal.
use Rattle.std.proofs.Common.{◌≡◌, ℕ, ◌==◌, true, ◌&&◌, Option, Some, None, refl, ap}
use Rattle.std.specs.Cmp.{IsEquivalence, Equal-is, and_equiv, on_equiv, nat_eq_equiv}
use Rattle.std.proofs.lemmas.Bool.{eqb-true, and_parts}
use Rattle.session_values.specs.Op.{op_eq, op_eq_equiv}
use Rattle.session_values.specs.Kinds.{kind_place}
use Rattle.session_values.specs.Values.{value_cmp, value_cmp-IsAntisymmetric}
use Rattle.session_values.specs.declared.op.Op.{Op}
use Rattle.session_values.proofs.KindLemmas.{one_place}
use Rattle.symbolic_ops.specs.declared.symbol.Symbol.{Symbol}
use Rattle.symbolic_ops.specs.Order.{arg_cmp, arg_exact, symbol_eq, symbol_eq_equiv}
use Rattle.waiting_pairs.specs.declared.cause.Cause.{Cause}
use Rattle.waiting_pairs.specs.declared.sought.Sought.{Sought}
use Rattle.waiting_pairs.specs.Causes.{hash_input, is_same, same_number}
use Rattle.waiting_pairs.specs.Sought.{is_sought, sought_input}

number_equiv : IsEquivalence same_number
number_equiv = record { refl = itself; symm = turned; congr = along }
  where
    itself : (a : Option ℕ) → same_number a a ≡ true
    itself (Some x) = nat_eq_equiv.refl x
    itself None = refl

    turned : (a b : Option ℕ) → same_number a b ≡ same_number b a
    turned (Some x) (Some y) = nat_eq_equiv.symm x y
    turned (Some x) None = refl
    turned None (Some y) = refl
    turned None None = refl

    along : (a b c : Option ℕ) → same_number a b ≡ true → same_number a c ≡ same_number b c
    along (Some x) (Some y) (Some z) h = nat_eq_equiv.congr x y z h
    along (Some x) (Some y) None h = refl
    along (Some x) None c h = cc
    along None (Some y) c h = cc
    along None None c h = refl

pub same_equiv : IsEquivalence is_same
same_equiv = and_equiv (and_equiv (and_equiv
    (on_equiv (λ (c : Cause). c.waits) number_equiv) (on_equiv (λ (c : Cause). c.operation) op_eq_equiv))
    (on_equiv (λ (c : Cause). c.holder) number_equiv)) (on_equiv (λ (c : Cause). c.symbol) symbol_eq_equiv)

-- ---- equal

one_number : (a b : Option ℕ) → same_number a b ≡ true → a ≡ b
one_number (Some x) (Some y) h = ap (λ (n : ℕ). Some n) (eqb-true x y h)
one_number (Some x) None h = cc
one_number None (Some y) h = cc
one_number None None h = refl

one_op : (a b : Op) → op_eq a b ≡ true → a ≡ b
one_op a b h =
    let first = and_parts (kind_place a.kind == kind_place b.kind) _ h in
    let second = and_parts (a.table == b.table) _ first.1 in
    let third = and_parts _ _ second.1 in
    let k : a.kind ≡ b.kind = one_place a.kind b.kind (eqb-true (kind_place a.kind) (kind_place b.kind) first.0) in
    let t : a.table ≡ b.table = eqb-true a.table b.table second.0 in
    let x : a.key ≡ b.key = value_cmp-IsAntisymmetric a.key b.key ((Equal-is (value_cmp a.key b.key)).0 third.0) in
    let y : a.value ≡ b.value = value_cmp-IsAntisymmetric a.value b.value ((Equal-is (value_cmp a.value b.value)).0 third.1) in
    λ i. record { kind = k i; table = t i; key = x i; value = y i }

pub one_symbol : (a b : Symbol) → symbol_eq a b ≡ true → a ≡ b
one_symbol a b h =
    let first = and_parts (kind_place a.kind == kind_place b.kind) _ h in
    let second = and_parts (a.table == b.table) _ first.1 in
    let third = and_parts _ _ second.1 in
    let k : a.kind ≡ b.kind = one_place a.kind b.kind (eqb-true (kind_place a.kind) (kind_place b.kind) first.0) in
    let t : a.table ≡ b.table = eqb-true a.table b.table second.0 in
    let x : a.key ≡ b.key = arg_exact a.key b.key ((Equal-is (arg_cmp a.key b.key)).0 third.0) in
    let y : a.value ≡ b.value = arg_exact a.value b.value ((Equal-is (arg_cmp a.value b.value)).0 third.1) in
    λ i. record { kind = k i; table = t i; key = x i; value = y i }

pub one_sought : (a b : Sought) → is_sought a b ≡ true → a ≡ b
one_sought a b h = λ i. record { symbol = one_symbol a.symbol b.symbol h i }

pub one_cause : (a b : Cause) → is_same a b ≡ true → a ≡ b
one_cause a b h =
    let last = and_parts (same_number a.waits b.waits && op_eq a.operation b.operation && same_number a.holder b.holder) (symbol_eq a.symbol b.symbol) h in
    let third = and_parts (same_number a.waits b.waits && op_eq a.operation b.operation) (same_number a.holder b.holder) last.0 in
    let second = and_parts (same_number a.waits b.waits) (op_eq a.operation b.operation) third.0 in
    let w : a.waits ≡ b.waits = one_number a.waits b.waits second.0 in
    let o : a.operation ≡ b.operation = one_op a.operation b.operation second.1 in
    let v : a.holder ≡ b.holder = one_number a.holder b.holder third.1 in
    let s : a.symbol ≡ b.symbol = one_symbol a.symbol b.symbol last.1 in
    λ i. record { waits = w i; operation = o i; holder = v i; symbol = s i }

-- ---- they are looked up by the same
pub sought_alike : (a b : Sought) → is_sought a b ≡ true → sought_input a ≡ sought_input b
sought_alike a b h = ap sought_input (one_sought a b h)

pub cause_alike : (a b : Cause) → is_same a b ≡ true → hash_input a ≡ hash_input b
cause_alike a b h = ap hash_input (one_cause a b h)
