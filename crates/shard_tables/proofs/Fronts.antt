-- The front of a list with different keys, and the key past it.
use Rattle.std.proofs.Common.{◌≡◌, ℕ, zero, suc, ◌+◌, ◌<◌, List, [], ◌∷◌, ◌++◌, take, get_or, length, None, Some, Bool, cond, refl, sym, ◌∙◌, ap, subst}
use Rattle.std.specs.Prelude.{map, position}
use Rattle.std.proofs.lemmas.List.{take_more, map_more}
use Rattle.session_values.specs.declared.value.Value.{Value}
use Rattle.shard_tables.specs.Keys.{is_under, AreDifferent}
use Rattle.shard_tables.specs.Slots.{IsIndex}
use Rattle.shard_tables.proofs.Places.{place_none}
use Rattle.shard_tables.proofs.Different.{under, missed, pushed_different}

module _ {X : Type 0} (key : X → Value) where
  missed_front : (n : ℕ) (xs : List X) (q : Value) → under key q xs ≡ None → under key q (take n xs) ≡ None
  missed_front zero xs q h = refl
  missed_front (suc n) [] q h = refl
  missed_front (suc n) (x ∷ xs) q h =
      let m = missed key x xs q h in
      ap (λ (b : Bool). cond b (Some x) (under key q (take n xs))) m.0 ∙ missed_front n xs q m.1

  pub different_front : (n : ℕ) (xs : List X) → AreDifferent key xs → AreDifferent key (take n xs)
  different_front zero xs a = tt
  different_front (suc n) [] a = tt
  different_front (suc n) (x ∷ xs) a = (missed_front n xs (key x) a.0, different_front n xs a.1)

  -- the key of an element stands nowhere before it
  pub not_before : (xs : List X) (i : ℕ) (x : X) → AreDifferent key xs → i < length xs → x ≡ get_or xs i x → position (is_under key (key x)) (take i xs) ≡ None
  not_before xs i x a l e =
      let is : take (i + 1) xs ≡ take i xs ++ x ∷ [] = take_more xs i x l ∙ ap (λ (z : X). take i xs ++ z ∷ []) (sym e) in
      let P : List X → Type 0 = λ ys. AreDifferent key ys in
      place_none (is_under key (key x)) (take i xs) (pushed_different key (take i xs) x (subst P is (different_front (i + 1) xs a))).1

  -- the index of a front, once the next key is taken in
  pub front_more : (factor bits : ℕ) (xs : List X) (slots : List ℕ) (i : ℕ) (x : X) → i < length xs → x ≡ get_or xs i x → IsIndex factor bits (map key (take i xs) ++ key x ∷ []) slots → IsIndex factor bits (map key (take (i + 1) xs)) slots
  front_more factor bits xs slots i x l e ix =
      let P : List Value → Type 0 = λ ks. IsIndex factor bits ks slots in
      subst P (ap (λ (z : X). map key (take i xs) ++ key z ∷ []) e ∙ sym (map_more key xs i x l)) ix
