-- Where a key stands in a list of different keys.
use Rattle.std.proofs.Common.{◌≡◌, ℕ, zero, suc, ◌<◌, Option, Some, None, true, false, List, [], ◌∷◌, length, get_or, refl, sym, ◌∙◌, ap, arith}
use Rattle.std.specs.Prelude.{map, position}
use Rattle.std.proofs.lemmas.List.{get_or-map, length-map}
use Rattle.std.proofs.lemmas.List.Quantifiers.{position-Some}
use Rattle.std.proofs.lemmas.Bool.{both_ways}
use Rattle.session_values.specs.declared.value.Value.{Value}
use Rattle.session_values.specs.declared.value.Value.TheVariants.{Nil}
use Rattle.session_values.specs.Values.{value_eq}
use Rattle.shard_tables.specs.Keys.{is_under, AreDifferent}
use Rattle.shard_tables.proofs.Places.{no_place}
use Rattle.shard_tables.proofs.Different.{not_missed}
use Rattle.session_values.proofs.Equal.{same_value}

module _ {X : Type 0} (key : X → Value) where
  pub one_place : (xs : List X) (i j : ℕ) (d : X) → AreDifferent key xs → i < length xs → j < length xs → key (get_or xs i d) ≡ key (get_or xs j d) → i ≡ j
  one_place [] i j d a p q e = absurd (omega arith)
  one_place (x ∷ xs) zero zero d a p q e = refl
  one_place (x ∷ xs) zero (suc j) d a p q e = absurd (not_missed key xs j d (key x) (omega arith) e a.0)
  one_place (x ∷ xs) (suc i) zero d a p q e = absurd (not_missed key xs i d (key x) (omega arith) (sym e) a.0)
  one_place (x ∷ xs) (suc i) (suc j) d a p q e = ap (λ (n : ℕ). suc n) (one_place xs i j d a.1 (omega arith) (omega arith) e)

  pub no_position : (xs : List X) (k : Value) → ((p : ℕ) → p < length (map key xs) → value_eq k (get_or (map key xs) p Nil) ≡ false) → position (is_under key k) xs ≡ None
  no_position [] k h = refl
  no_position (x ∷ xs) k h = go (position (is_under key k) (x ∷ xs)) refl
    where
      go : (o : Option ℕ) → position (is_under key k) (x ∷ xs) ≡ o → o ≡ None
      go None e = refl
      go (Some q) e =
          let w = position-Some (is_under key k) (x ∷ xs) q x e in
          absurd (both_ways (value_eq k (key (get_or (x ∷ xs) q x))) (ap (value_eq k) (sym (get_or-map key (x ∷ xs) q x Nil w.0)) ∙ h q (omega (arith, w.0, length-map (x ∷ xs) key))) w.1)

  pub at_position : (xs : List X) (k : Value) (p : ℕ) → AreDifferent key xs → p < length xs → value_eq k (get_or (map key xs) p Nil) ≡ true → position (is_under key k) xs ≡ Some p
  at_position [] k p a l h = absurd (omega arith)
  at_position (x ∷ xs) k p a l h = go (position (is_under key k) (x ∷ xs)) refl
    where
      is : k ≡ key (get_or (x ∷ xs) p x)
      is = same_value k (get_or (map key (x ∷ xs)) p Nil) h ∙ get_or-map key (x ∷ xs) p x Nil l

      go : (o : Option ℕ) → position (is_under key k) (x ∷ xs) ≡ o → o ≡ Some p
      go None e = absurd (not_missed key (x ∷ xs) p x k l is (no_place (is_under key k) (x ∷ xs) (sym e)))
      go (Some q) e =
          let w = position-Some (is_under key k) (x ∷ xs) q x e in
          ap (λ (n : ℕ). Some n) (one_place (x ∷ xs) q p x a w.0 l (sym (same_value k (key (get_or (x ∷ xs) q x)) w.1) ∙ is))
