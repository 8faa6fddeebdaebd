-- What a mask leaves of a slot's number, and where a search begins.
use Rattle.std.proofs.Common.{◌≡◌, ℕ, ◌+◌, ◌-◌, ◌*◌, ◌/◌, ◌%◌, ◌^◌, ◌<◌, ◌≤◌, inl, inr, eqb, bit_and, bit_xor, pos, negsuc, ℤ, of_z, w64, sym, subst, ◌∙◌, ap, arith}
use Rattle.std.proofs.Math.Nat.{mod-eq_of_lt, mod_self, mod-eq-sub-mod, mod-lt}
use Rattle.std.proofs.lemmas.Nat.{and_mask, pow_pos, shr_below, mul-mod_first}
use Rattle.std.proofs.lemmas.Bool.{cond-true, cond-false}
use Rattle.std.proofs.lemmas.Bool.Decides.{eqb_tells}
use lib.Signed.{mag}
use Rattle.session_values.specs.declared.value.Value.{Value}
use Rattle.session_values.specs.declared.value.Value.TheVariants.{Num}
use Rattle.shard_tables.specs.Slots.{distance, after, start_by, factor_of, folded, mixed, number_of, spread}
use Rattle.shard_tables.proofs.Distances.{after_is, distance_is}

pub masked_after : (bits s : ℕ) → s < 2 ^ bits → bit_and (s + 1) (2 ^ bits - 1) ≡ after (2 ^ bits) s
masked_after bits s l = and_mask (s + 1) bits ∙ elim (after_is (2 ^ bits) s) [
  | inl e ↦ ap (λ (x : ℕ). x % 2 ^ bits) e.0 ∙ mod_self (2 ^ bits) ∙ sym e.1
  | inr e ↦ mod-eq_of_lt (omega arith) ∙ sym e.1
]

pub masked_distance : (bits h s : ℕ) → h < 2 ^ bits → s < 2 ^ bits → bit_and (s + 2 ^ bits - h) (2 ^ bits - 1) ≡ distance (2 ^ bits) h s
masked_distance bits h s p q = and_mask (s + 2 ^ bits - h) bits ∙ elim (distance_is (2 ^ bits) h s) [
  | inl e ↦
      let small : s + 2 ^ bits - h - 2 ^ bits ≡ s - h = omega arith in
      mod-eq-sub-mod {n = s + 2 ^ bits - h} {m = 2 ^ bits} (omega arith) ∙ ap (λ (x : ℕ). x % 2 ^ bits) small ∙ mod-eq_of_lt (omega arith) ∙ sym e.1
  | inr e ↦ mod-eq_of_lt (omega arith) ∙ sym e.1
]

-- a number's bits, read without a sign
pub number_is : (z : ℤ) → mag z < 2 ^ 63 → of_z w64 z ≡ number_of (Num z)
number_is (pos n) l = sym (mod-eq_of_lt (omega arith))
number_is (negsuc n) l =
    let e : n % 2 ^ 64 ≡ n = mod-eq_of_lt (omega arith) in
    omega (arith, e)

-- the upper bits of a number of 64 bits
pub start-below : (n bits : ℕ) → bits ≤ 64 → n < 2 ^ 64 → n / 2 ^ (64 - bits) < 2 ^ bits
start-below n bits l fits =
    let few : bits + (64 - bits) ≡ 64 = omega arith in
    let P : ℕ → Type 0 = λ k. n < 2 ^ k in
    shr_below n bits (64 - bits) (subst P (sym few) fits)

-- a number of 64 bits stays one where it is spread
pub spread-lt : (factor n : ℕ) → spread factor n < 2 ^ 64
spread-lt factor n = elim (eqb_tells factor (factor_of 0)) [
  | inl h ↦ subst (λ (x : ℕ). x < 2 ^ 64) (sym (cond-true (eqb factor (factor_of 0)) (n * factor % 2 ^ 64) (mixed factor n) h.0)) (mod-lt (n * factor) {m = 2 ^ 64} (pow_pos 64))
  | inr h ↦ subst (λ (x : ℕ). x < 2 ^ 64) (sym (cond-false (eqb factor (factor_of 0)) (n * factor % 2 ^ 64) (mixed factor n) h.0)) (mod-lt (folded 27 (folded 30 (bit_xor n factor) * 0xbf58476d1ce4e5b9 % 2 ^ 64) * 0x94d049bb133111eb) {m = 2 ^ 64} (pow_pos 64))
]

pub start-lt : (factor : ℕ) (key : Value) (bits : ℕ) → bits ≤ 64 → start_by factor key bits < 2 ^ bits
unfolding start_by
start-lt factor key bits l = start-below (spread factor (number_of key)) bits l (spread-lt factor (number_of key))

-- the factor of a seed, as it is computed within 64 bits
pub factor_within : (seed : ℕ) → ((seed * 11400714819323198485 % 2 ^ 64 * 2 % 2 ^ 64 + 1) % 2 ^ 64 * 11400714819323198485) % 2 ^ 64 ≡ factor_of seed
factor_within seed = go (seed * 11400714819323198485)
  where
    go : (x : ℕ) → ((x % 2 ^ 64 * 2 % 2 ^ 64 + 1) % 2 ^ 64 * 11400714819323198485) % 2 ^ 64 ≡ ((2 * x + 1) * 11400714819323198485) % 2 ^ 64
    go x =
        let odd : (x % 2 ^ 64 * 2 % 2 ^ 64 + 1) % 2 ^ 64 ≡ (2 * x + 1) % 2 ^ 64 = omega arith in
        ap (λ (n : ℕ). (n * 11400714819323198485) % 2 ^ 64) odd ∙ mul-mod_first (2 * x + 1) 11400714819323198485 (2 ^ 64)
