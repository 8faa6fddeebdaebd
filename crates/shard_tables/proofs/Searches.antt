-- What a search has met when it ends.
use Rattle.std.proofs.Common.{◌≡◌, ℕ, ◌+◌, ◌-◌, ◌<◌, ◌≤◌, ◌^◌, inl, inr, Option, Some, None, eqb, true, false, List, length, get_or, sym, ◌∙◌, ap, subst, arith}
use Rattle.std.proofs.lemmas.Bool.{cases_lt, cond-true, cond-false, eq-eqb, ne_eqb, false_from_ne_true, both_ways}
use Rattle.std.proofs.lemmas.Bool.Decides.{eqb_tells}
use Rattle.session_values.specs.declared.value.Value.{Value}
use Rattle.session_values.specs.declared.value.Value.TheVariants.{Nil}
use Rattle.session_values.specs.Values.{value_eq}
use Rattle.shard_tables.specs.Slots.{distance, start_by, start_in, place_in, IsIndex}
use Rattle.shard_tables.proofs.Distances.{same_distance}
use Rattle.shard_tables.proofs.Masks.{start-lt}
use Rattle.shard_tables.proofs.Changes.{taken_in}
use Rattle.session_values.proofs.Equal.{same_value}
use Rattle.session_values.proofs.Options.{some_none}

-- a slot that holds no place is free
pub is_free : (x : ℕ) → place_in x ≡ None → x ≡ 0
is_free x e = elim (eqb_tells x 0) [
  | inl h ↦ h.1
  | inr h ↦ absurd (some_none (x - 1) (sym (cond-false (eqb x 0) None (Some (x - 1)) h.0) ∙ e))
]

pub holds_none : (x : ℕ) → x ≡ 0 → place_in x ≡ None
holds_none x e = cond-true (eqb x 0) None (Some (x - 1)) (eq-eqb x 0 e)

pub holds_place : (x : ℕ) → 0 < x → place_in x ≡ Some (x - 1)
holds_place x l = cond-false (eqb x 0) None (Some (x - 1)) (ne_eqb x 0 (λ i. omega arith))

pub has_place : (x p : ℕ) → place_in x ≡ Some p → x ≡ p + 1
has_place x p e = elim (eqb_tells x 0) [
  | inl h ↦ absurd (some_none p (sym e ∙ cond-true (eqb x 0) None (Some (x - 1)) h.0))
  | inr h ↦
      let is : ◌≡◌ {A = Option ℕ} (Some (x - 1)) (Some p) = sym (cond-false (eqb x 0) None (Some (x - 1)) h.0) ∙ e in
      let less : x - 1 ≡ p = cc in
      omega (arith, less, h.1)
]

-- the key of slot s, where a search that passed no such key came to a free slot t
met_at : (factor bits : ℕ) (keys : List Value) (xs : List ℕ) (k : Value) (s t p : ℕ) → bits ≤ 64 → IsIndex factor bits keys xs → s < 2 ^ bits → t < 2 ^ bits → get_or xs t 0 ≡ 0 → get_or xs s 0 ≡ p + 1
    → (distance (2 ^ bits) (start_by factor k bits) s < distance (2 ^ bits) (start_by factor k bits) t → value_eq k (get_or keys p Nil) ≡ false)
    → value_eq k (get_or keys p Nil) ≡ true → ⊥
met_at factor bits keys xs k s t p small ix s_in t_in free holds passed equal =
    let m = 2 ^ bits in
    let back : get_or xs s 0 - 1 ≡ p = omega (arith, holds) in
    let same : k ≡ get_or keys p Nil = same_value k (get_or keys p Nil) equal in
    let starts : start_in factor bits keys (get_or xs s 0) ≡ start_by factor k bits = ap (λ (q : ℕ). start_by factor (get_or keys q Nil) bits) back ∙ ap (λ (v : Value). start_by factor v bits) (sym same) in
    elim (cases_lt (distance m (start_by factor k bits) s) (distance m (start_by factor k bits) t)) [
      | inl b ↦ both_ways (value_eq k (get_or keys p Nil)) (passed b) equal
      | inr e ↦ elim (cases_lt (distance m (start_by factor k bits) t) (distance m (start_by factor k bits) s)) [
        | inl b ↦
            let P : ℕ → Type 0 = λ h. distance (2 ^ bits) h t < distance (2 ^ bits) h s in
            let taken : 0 < get_or xs t 0 = ix.reached s (omega (arith, holds)) t t_in (subst P (sym starts) b) in
            omega (arith, free, taken)
        | inr g ↦
            let is : s ≡ t = same_distance (2 ^ bits) (start_by factor k bits) s t (start-lt factor k bits small) s_in t_in (omega arith) in
            omega (arith, ap (λ (v : ℕ). get_or xs v 0) is, free, holds)
      ]
    ]

-- a search that comes to a free slot has met every key
pub met : (factor bits : ℕ) (keys : List Value) (xs : List ℕ) (k : Value) (t p : ℕ) → bits ≤ 64 → IsIndex factor bits keys xs → t < 2 ^ bits → get_or xs t 0 ≡ 0
    → ((u : ℕ) → u < 2 ^ bits → distance (2 ^ bits) (start_by factor k bits) u < distance (2 ^ bits) (start_by factor k bits) t → value_eq k (get_or keys (get_or xs u 0 - 1) Nil) ≡ false)
    → p < length keys → value_eq k (get_or keys p Nil) ≡ false
met factor bits keys xs k t p small ix t_in free passed l =
    let w = ix.places.there p l in
    let s_in : w.0 < 2 ^ bits = omega (arith, taken_in xs w.0 (omega (arith, w.1)), ix.places.long) in
    let back : get_or xs w.0 0 - 1 ≡ p = omega (arith, w.1) in
    false_from_ne_true (value_eq k (get_or keys p Nil)) (met_at factor bits keys xs k w.0 t p small ix s_in t_in free w.1 (λ b. ap (λ (q : ℕ). value_eq k (get_or keys q Nil)) (sym back) ∙ passed w.0 s_in b))
