-- The turns of an operation, as a set.
use Rattle.std.proofs.Common.{◌≡◌, ◌≢◌, ℕ, zero, suc, ◌+◌, ◌*◌, ◌-◌, ◌%◌, ◌^◌, ◌<◌, ◌≤◌, inl, inr, Bool, true, false, cond, eqb, refl, sym, ◌∙◌, ap, subst, mod-lt, div-add-mod', arith}
use Rattle.std.specs.Int.{bit_at}
use Rattle.std.proofs.lemmas.Nat.{div-mul-add, mod-mul-add}
use Rattle.std.proofs.lemmas.Nat.Bits.{bit_at_mask_inside, bit_at_mask_below, bit_at_mask_above}
use Rattle.std.proofs.lemmas.Bool.{eqb-true, eqb-false, cases_lt}
use Rattle.session_values.specs.declared.op.Op.{Op}
use Rattle.session_values.specs.Kinds.{arguments}
use Rattle.session_values.proofs.Numbers.{one_zero}
use Rattle.shard_tables.specs.Parts.{shard_of}
use Rattle.shard_tables.proofs.PartSizes.{shard_below}
use Rattle.hall_rule.specs.Turns.{IsTurnOf, place, span}

-- ---- the bits of a row of turns
module _ (lo n : ℕ) where
  abbrev row_set : ℕ
  row_set = 2 ^ (lo + n) - 2 ^ lo

  pub bit_inside : (u : ℕ) → lo ≤ u → u < lo + n → bit_at (2 ^ (lo + n) - 2 ^ lo) u ≡ 1
  bit_inside u from below = bit_at_mask_inside lo (lo + n) u from below

  pub in_row : (u : ℕ) → bit_at (2 ^ (lo + n) - 2 ^ lo) u ≡ 1 → (lo ≤ u) × (u < lo + n)
  in_row u e = elim (cases_lt u lo) [
    | inl p ↦ absurd (one_zero (sym e ∙ bit_at_mask_below lo (lo + n) u p))
    | inr p ↦ elim (cases_lt u (lo + n)) [
      | inl z ↦ (p, z)
      | inr z ↦ absurd (one_zero (sym e ∙ bit_at_mask_above lo (lo + n) u z))
    ]
  ]

-- the set isn't empty
pub some_set : (lo n : ℕ) → 0 < n → 0 < 2 ^ (lo + n) - 2 ^ lo
some_set lo n some = go (2 ^ (lo + n) - 2 ^ lo) refl
  where
    zero_bit : (u : ℕ) → bit_at 0 u ≡ 1 → ⊥
    zero_bit u e = one_zero (sym e ∙ bit_at_mask_above 0 0 u (omega arith))

    go : (x : ℕ) → 2 ^ (lo + n) - 2 ^ lo ≡ x → 0 < 2 ^ (lo + n) - 2 ^ lo
    go zero e = absurd (zero_bit lo (ap (λ (x : ℕ). bit_at x lo) (sym e) ∙ bit_inside lo n lo (omega arith) (omega (arith, some))))
    go (suc x) e = omega (arith, e)

-- ---- the row of an operation
more_rows : (a b n : ℕ) → a < b → a * n + n ≤ b * n
more_rows a b n l = grind arith

module _ (n : ℕ) (op : Op) (some : 0 < n) where
  abbrev key_place : Bool → ℕ
  key_place b = op.table * n + cond b 0 (shard_of n op.key)

  abbrev key_span : Bool → ℕ
  key_span b = cond b n 1

  pub some_span : 0 < span n op
  some_span = go (eqb (arguments op.kind) 0)
    where
      go : (b : Bool) → 0 < key_span b
      go true = some
      go false = omega arith

  pub row_low : (tables : ℕ) → op.table < tables → place n op + span n op ≤ tables * n
  row_low tables l = go (eqb (arguments op.kind) 0)
    where
      go : (b : Bool) → key_place b + key_span b ≤ tables * n
      go true = omega (arith, more_rows op.table tables n l)
      go false = omega (arith, more_rows op.table tables n l, shard_below n some op.key)

  -- the turns of the row are those of the operation
  pub turn_in : (j : ℕ) → place n op ≤ j → j < place n op + span n op → IsTurnOf n op j
  turn_in = go (eqb (arguments op.kind) 0) refl
    where
      at : (r : ℕ) → r < n → (0 < arguments op.kind → shard_of n op.key ≡ r) → IsTurnOf n op (op.table * n + r)
      at r l k = record { table = div-mul-add op.table n r l; shard = λ z. k z ∙ sym (mod-mul-add op.table n r l) }

      go : (b : Bool) → eqb (arguments op.kind) 0 ≡ b → (j : ℕ) → key_place b ≤ j → j < key_place b + key_span b → IsTurnOf n op j
      go true e j from below =
          let none : arguments op.kind ≡ 0 = eqb-true (arguments op.kind) 0 e in
          let is : op.table * n + (j - op.table * n) ≡ j = omega (arith, from) in
          subst (IsTurnOf n op) is (at (j - op.table * n) (omega (arith, from, below)) (λ z. absurd (omega (arith, z, none))))
      go false e j from below =
          let is : op.table * n + shard_of n op.key ≡ j = omega (arith, from, below) in
          subst (IsTurnOf n op) is (at (shard_of n op.key) (shard_below n some op.key) (λ z. refl))

  pub turn_out : (j : ℕ) → IsTurnOf n op j → (place n op ≤ j) × (j < place n op + span n op)
  turn_out j at = go (eqb (arguments op.kind) 0) refl
    where
      is : op.table * n + j % n ≡ j
      is = ap (λ (a : ℕ). a * n + j % n) (sym at.table) ∙ div-add-mod' j n

      go : (b : Bool) → eqb (arguments op.kind) 0 ≡ b → (key_place b ≤ j) × (j < key_place b + key_span b)
      go true e = let l : j % n < n = mod-lt j some in (omega (arith, is, l), omega (arith, is, l))
      go false e =
          let none : arguments op.kind ≢ 0 = eqb-false (arguments op.kind) 0 e in
          let k : shard_of n op.key ≡ j % n = at.shard (omega (arith, none)) in
          (omega (arith, is, k), omega (arith, is, k))
