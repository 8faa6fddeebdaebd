-- The list of pairs against the rule.
use Rattle.std.proofs.Common.{◌≡◌, ◌≢◌, ◌⊎◌, inl, inr, Bool, true, false, not, ◌&&◌, ◌||◌, eqb, refl, sym, ◌∙◌, ap}
use Rattle.std.specs.Bool.{Decides}
use Rattle.std.proofs.lemmas.Bool.{eq-eqb, ne_eqb, or_left, or_right}
use Rattle.session_values.specs.declared.kind.Kind.{Kind}
use Rattle.session_values.specs.declared.kind.Kind.TheVariants.{Get, Put, Swap, Del, Size, Bump, Has, Add, Mark, Drop, Count}
use Rattle.session_values.specs.declared.op.Op.{Op}
use Rattle.session_values.specs.declared.value.Value.{Value}
use Rattle.session_values.specs.Commuting.{Commute}
use Rattle.session_values.specs.Op.{IsHeld}
use Rattle.session_values.specs.Values.{value_eq}
use Rattle.session_values.specs.Kinds.{home, is_keyed, is_plain, kind_place, is_on_map, is_read}
use Rattle.session_values.proofs.Equal.{same_value, value_eq-self}
use Rattle.commute_tables.specs.Pairs.{AreOnOneKey, is_commuting_pair, is_idle_bump, is_listed}
use Rattle.commute_tables.specs.Relation.{same_bool, commutes, is_number, is_zero, add_up, sums}
use Rattle.commute_tables.proofs.Commutes.{commutes-Commute}
use Rattle.commute_tables.proofs.TellingApart.{Decides-commute}

-- what the rule says of kinds and values on one table, with keys that are the same or aren't
abbrev rule : Kind → Kind → Bool → Value → Value → Bool
rule x y same v w =
    not (same_bool (is_on_map x) (is_on_map y))
    || (is_read x && is_read y)
    || (is_keyed x && is_keyed y && not same)
    || (is_plain x && eqb (kind_place x) (kind_place y) && same && (not (eqb (kind_place x) 1) || value_eq v w))
    || add_up x (is_number v) (is_zero v) y (is_number w) (is_zero w)

abbrev listed : Kind → Kind → Value → Value → Bool
listed x y v w = is_idle_bump x v || is_idle_bump y w || is_listed x v y w

or_none : (b : Bool) → (b || false) ≡ b
or_none true = refl
or_none false = refl

or_all : (b : Bool) → true ≡ (b || true)
or_all true = refl
or_all false = refl

-- with one key
with_one_key : (x y : Kind) (v w : Value) → home x ≡ home y → rule x y true v w ≡ listed x y v w
with_one_key Put Put v w h = or_none (value_eq v w)
with_one_key Put Bump v w h = ap (λ (b : Bool). b || (not (is_number v) || is_zero w)) (or_none (not (is_number w)))
with_one_key Get Bump v w h = or_none _
with_one_key Swap Bump v w h = or_none _
with_one_key Del Bump v w h = or_none _
with_one_key Size Bump v w h = or_none _
with_one_key Bump Bump v w h = or_all _
with_one_key Bump Put v w h = or_none _
with_one_key Bump Get v w h = or_none _
with_one_key Bump Swap v w h = or_none _
with_one_key Bump Del v w h = or_none _
with_one_key Bump Size v w h = or_none _
with_one_key Has Count v w h = refl
with_one_key Add Count v w h = refl
with_one_key Mark Count v w h = refl
with_one_key Drop Count v w h = refl
with_one_key Count Count v w h = refl
with_one_key x y v w h = cc

-- where one has no key
without_key : (x y : Kind) (v w : Value) → (is_keyed x && is_keyed y) ≡ false → rule x y false v w ≡ rule x y true v w
without_key Size y v w h = refl
without_key Count y v w h = refl
without_key Get Size v w h = refl
without_key Put Size v w h = refl
without_key Swap Size v w h = refl
without_key Del Size v w h = refl
without_key Bump Size v w h = refl
without_key Has Size v w h = refl
without_key Add Size v w h = refl
without_key Mark Size v w h = refl
without_key Drop Size v w h = refl
without_key x y v w h = cc

listed_right : (a b : Op) → AreOnOneKey a b → is_commuting_pair a b ≡ commutes a b
listed_right a b one = sym (on_one_table ∙ by_keys (value_eq a.key b.key) refl)
  where
    on_one_table : commutes a b ≡ rule a.kind b.kind (value_eq a.key b.key) a.value b.value
    on_one_table = ap (λ (t : Bool). not t || not (same_bool (is_on_map a.kind) (is_on_map b.kind)) || (is_read a.kind && is_read b.kind) || (is_keyed a.kind && is_keyed b.kind && not (value_eq a.key b.key)) || (is_plain a.kind && eqb (kind_place a.kind) (kind_place b.kind) && value_eq a.key b.key && (not (eqb (kind_place a.kind) 1) || value_eq a.value b.value)) || sums a b) (eq-eqb a.table b.table one.table)

    unkeyed : value_eq a.key b.key ≡ false → (x y : Bool) → is_keyed a.kind ≡ x → is_keyed b.kind ≡ y → (x && y) ≡ false
    unkeyed f true true p q =
        let e : value_eq a.key b.key ≡ true = ap (value_eq a.key) (sym (one.key p q)) ∙ value_eq-self a.key in
        sym e ∙ f
    unkeyed f true false p q = refl
    unkeyed f false y p q = refl

    by_keys : (same : Bool) → value_eq a.key b.key ≡ same → rule a.kind b.kind same a.value b.value ≡ is_commuting_pair a b
    by_keys true f = with_one_key a.kind b.kind a.value b.value one.container
    by_keys false f = without_key a.kind b.kind a.value b.value (unkeyed f (is_keyed a.kind) (is_keyed b.kind) refl refl) ∙ with_one_key a.kind b.kind a.value b.value one.container

pub pairs_decided : (a b : Op) → IsHeld a → IsHeld b → AreOnOneKey a b → Decides (is_commuting_pair a b) (Commute a b)
pairs_decided a b f g one = Decides-commute a b (is_commuting_pair a b) f g (listed_right a b one)

-- ---- on different containers, and with different keys
pub one_home : (x y : Kind) → same_bool (is_on_map x) (is_on_map y) ≡ true → home x ≡ home y
one_home Get Get e = refl
one_home Put Get e = refl
one_home Swap Get e = refl
one_home Del Get e = refl
one_home Size Get e = refl
one_home Bump Get e = refl
one_home Has Get e = cc
one_home Add Get e = cc
one_home Mark Get e = cc
one_home Drop Get e = cc
one_home Count Get e = cc
one_home x y e = cc

other_home : (x y : Kind) → home x ≢ home y → same_bool (is_on_map x) (is_on_map y) ≡ false
other_home x y n = go (same_bool (is_on_map x) (is_on_map y)) refl
  where
    go : (b : Bool) → same_bool (is_on_map x) (is_on_map y) ≡ b → b ≡ false
    go true e = absurd (n (one_home x y e))
    go false e = refl

pub on_other_containers : (a b : Op) → IsHeld a → IsHeld b → (a.table ≢ b.table) ⊎ (home a.kind ≢ home b.kind) → Commute a b
on_other_containers a b f g n = commutes-Commute a b f.value g.value (or_left _ _ (or_left _ _ (or_left _ _ (or_left _ _ (by_part n)))))
  where
    by_part : (a.table ≢ b.table) ⊎ (home a.kind ≢ home b.kind) → (not (eqb a.table b.table) || not (same_bool (is_on_map a.kind) (is_on_map b.kind))) ≡ true
    by_part (inl n) = or_left _ _ (ap not (ne_eqb a.table b.table n))
    by_part (inr n) = or_right _ _ (ap not (other_home a.kind b.kind n))

pub with_other_keys : (a b : Op) → IsHeld a → IsHeld b → is_keyed a.kind ≡ true → is_keyed b.kind ≡ true → a.key ≢ b.key → Commute a b
with_other_keys a b f g p q n = commutes-Commute a b f.value g.value (or_left _ _ (or_left _ _ (or_right _ _ (all_three (is_keyed a.kind) (is_keyed b.kind) (value_eq a.key b.key) p q refl))))
  where
    all_three : (x y z : Bool) → x ≡ true → y ≡ true → value_eq a.key b.key ≡ z → (x && y && not z) ≡ true
    all_three true true false p q e = refl
    all_three true true true p q e = absurd (n (same_value a.key b.key e))
    all_three true false z p q e = cc
    all_three false y z p q e = cc
