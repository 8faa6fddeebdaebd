-- Two strictly sorted lists with the same members are one list.
use Rattle.std.proofs.Common.{◌≡◌, ◌↔◌, ◌⊎◌, ◌∷◌, [], List, ℕ, refl, sym, ap, ◌∙◌, subst, inl, inr, arith, ◌<◌, Contains}
use Rattle.std.specs.Prelude.{slice_index_or}
use Rattle.std.specs.Cmp.{IsTotalOrder}
use Rattle.std.specs.List.Sorted.{IsStrictlySortedBy}
use Rattle.std.specs.Ordering.{ordering_reverse}
use Rattle.std.specs.declared.cmp.Ordering.{Ordering}
use Rattle.std.specs.declared.cmp.Ordering.TheVariants.{Less}
use Rattle.std.proofs.lemmas.Map.Keys.{sorted_head, sorted_tail}
use Rattle.std.proofs.lemmas.List.Elements.{Contains-append_left, Contains-append_right, Contains-append_cases, Contains-push, All-contains, All-from_recursion}

pub none_in_nil : {X : Type 0} (x : X) → Contains [] x → ⊥
none_in_nil x m = let lt = m.1 in omega arith

only_one : {X : Type 0} (y x : X) → Contains (y ∷ []) x → x ≡ y
only_one y x m = go m.0 m.1 m.2
  where
    go : (k : ℕ) → k < 1 → slice_index_or (y ∷ []) k x ≡ x → x ≡ y
    go k lt e = let z : k ≡ 0 = omega arith in sym (subst (λ (j : ℕ). slice_index_or (y ∷ []) j x ≡ x) z e)

pub cons_cases : {X : Type 0} (y : X) (ys : List X) (x : X) → Contains (y ∷ ys) x → (x ≡ y) ⊎ Contains ys x
cons_cases y ys x m = go (Contains-append_cases (y ∷ []) ys x m)
  where
    go : Contains (y ∷ []) x ⊎ Contains ys x → (x ≡ y) ⊎ Contains ys x
    go (inl h) = inl (only_one y x h)
    go (inr h) = inr h

pub cons_head : {X : Type 0} (y : X) (ys : List X) → Contains (y ∷ ys) y
cons_head y ys = Contains-append_left (y ∷ []) ys y (Contains-push [] y)

pub cons_tail : {X : Type 0} (y : X) (ys : List X) (x : X) → Contains ys x → Contains (y ∷ ys) x
cons_tail y ys x m = Contains-append_right (y ∷ []) ys x m

module _ {X : Type 0} (R : X → X → Ordering) (total : IsTotalOrder R) where
  below_tail : (y : X) (ys : List X) (x : X) → IsStrictlySortedBy R (y ∷ ys) → Contains ys x → R y x ≡ Less
  below_tail y ys x s m =
      All-contains (λ z. R y z ≡ Less) ys x (All-from_recursion (λ z. R y z ≡ Less) ys (sorted_head R y ys s)) m

  not_both : (x y : X) → R x y ≡ Less → R y x ≡ Less → ⊥
  not_both x y e f = absurd (cc (sym e ∙ total.antisymm x y ∙ ap ordering_reverse f))

  same_tail : (x : X) (xs ys : List X) → IsStrictlySortedBy R (x ∷ xs) → ((s : X) → Contains (x ∷ xs) s → Contains (x ∷ ys) s) → (s : X) → Contains xs s → Contains ys s
  same_tail x xs ys sorted h s m = go (cons_cases x ys s (h s (cons_tail x xs s m)))
    where
      go : (s ≡ x) ⊎ Contains ys s → Contains ys s
      go (inl e) =
          let less : R x x ≡ Less = subst (λ z. R x z ≡ Less) e (below_tail x xs s sorted m) in
          absurd (not_both x x less less)
      go (inr k) = k

  same_heads : (x : X) (xs : List X) (y : X) (ys : List X) → IsStrictlySortedBy R (x ∷ xs) → IsStrictlySortedBy R (y ∷ ys) → ((s : X) → Contains (x ∷ xs) s ↔ Contains (y ∷ ys) s) → x ≡ y
  same_heads x xs y ys p q h = go (cons_cases y ys x ((h x).0 (cons_head x xs))) (cons_cases x xs y ((h y).1 (cons_head y ys)))
    where
      go : (x ≡ y) ⊎ Contains ys x → (y ≡ x) ⊎ Contains xs y → x ≡ y
      go (inl e) k = e
      go (inr m) (inl e) = sym e
      go (inr m) (inr n) = absurd (not_both x y (below_tail x xs y p n) (below_tail y ys x q m))

  pub sorted_unique : (xs ys : List X) → IsStrictlySortedBy R xs → IsStrictlySortedBy R ys → ((s : X) → Contains xs s ↔ Contains ys s) → xs ≡ ys
  sorted_unique [] [] p q h = refl
  sorted_unique [] (y ∷ ys) p q h = absurd (none_in_nil y ((h y).1 (cons_head y ys)))
  sorted_unique (x ∷ xs) [] p q h = absurd (none_in_nil x ((h x).0 (cons_head x xs)))
  sorted_unique (x ∷ xs) (y ∷ ys) p q h =
      let e = same_heads x xs y ys p q h in
      let q' = subst (λ z. IsStrictlySortedBy R (z ∷ ys)) (sym e) q in
      let k : (s : X) → Contains (x ∷ xs) s ↔ Contains (x ∷ ys) s = subst (λ z. (s : X) → Contains (x ∷ xs) s ↔ Contains (z ∷ ys) s) (sym e) h in
      let tails = sorted_unique xs ys (sorted_tail R x xs p) (sorted_tail R y ys q) (λ s. (same_tail x xs ys p (λ z m. (k z).0 m) s, same_tail x ys xs q' (λ z m. (k z).1 m) s)) in
      ap (λ z. z ∷ xs) e ∙ ap (λ zs. y ∷ zs) tails
