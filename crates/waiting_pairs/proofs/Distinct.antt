-- The elements of a list, those that are the same once.
use Rattle.std.proofs.Common.{◌≡◌, Bool, true, false, cond, not, ◌||◌, List, [], ◌∷◌, ◌++◌, get_or, append-nil, refl, sym, ap, ◌∙◌, arith}
use Rattle.std.specs.List.{AllPairs, filter, list_any}
use Rattle.std.specs.Cmp.{IsEquivalence}
use Rattle.std.proofs.lemmas.Bool.{not-true}
use Rattle.std.proofs.lemmas.List.Elements.{filter-append, filter_passes}
use Rattle.std.proofs.lemmas.List.Kept.{AllPairs-cons, AllPairs-filter}
use Rattle.waiting_pairs.specs.Rows.{distinct}

module _ {X : Type 0} (E : X → X → Bool) (e : IsEquivalence E) where
  other : (x c y : X) → E c x ≡ false → E x y ≡ true → E c y ≡ false
  other x c y differs h = e.symm c y ∙ sym (e.congr x y c h) ∙ e.symm x c ∙ differs

  any_step : (x c y : X) → E c x ≡ false → (ys zs : List X) → list_any (E c) zs ≡ list_any (E c) ys → (b : Bool) → E x y ≡ b
      → list_any (E c) (cond (not b) (y ∷ zs) zs) ≡ (E c y || list_any (E c) ys)
  any_step x c y differs ys zs rest true h = rest ∙ sym (ap (λ (b : Bool). b || list_any (E c) ys) (other x c y differs h))
  any_step x c y differs ys zs rest false h = ap (λ (b : Bool). E c y || b) rest

  -- what is the same as c isn't taken out for another one
  pub any_kept : (x c : X) → E c x ≡ false → (ys : List X) → list_any (E c) (filter (λ y. not (E x y)) ys) ≡ list_any (E c) ys
  any_kept x c differs [] = refl
  any_kept x c differs (y ∷ ys) = any_step x c y differs ys (filter (λ z. not (E x z)) ys) (any_kept x c differs ys) (E x y) refl

  one_out : (x c : X) (b : Bool) → E x c ≡ b → filter (λ y. not (E x y)) (c ∷ []) ≡ cond b [] (c ∷ [])
  one_out x c true h = ap (λ (b : Bool). cond (not b) (c ∷ []) []) h
  one_out x c false h = ap (λ (b : Bool). cond (not b) (c ∷ []) []) h

  push_step : (x c : X) (known : List X) (b : Bool) → E c x ≡ b → (a : Bool) → list_any (E c) known ≡ a
      → x ∷ filter (λ y. not (E x y)) (cond a known (known ++ c ∷ []))
      ≡ cond (b || list_any (E c) (filter (λ y. not (E x y)) known)) (x ∷ filter (λ y. not (E x y)) known) (x ∷ filter (λ y. not (E x y)) known ++ c ∷ [])
  push_step x c known true h true k = refl
  push_step x c known true h false k = ap (λ (zs : List X). x ∷ zs) (filter-append (λ y. not (E x y)) known (c ∷ [])
      ∙ ap (λ (zs : List X). filter (λ y. not (E x y)) known ++ zs) (one_out x c true (e.symm x c ∙ h)) ∙ append-nil (filter (λ y. not (E x y)) known))
  push_step x c known false h true k =
      sym (ap (λ (b : Bool). cond b (x ∷ filter (λ y. not (E x y)) known) (x ∷ filter (λ y. not (E x y)) known ++ c ∷ [])) (any_kept x c h known ∙ k))
  push_step x c known false h false k = ap (λ (zs : List X). x ∷ zs) (filter-append (λ y. not (E x y)) known (c ∷ [])
      ∙ ap (λ (zs : List X). filter (λ y. not (E x y)) known ++ zs) (one_out x c false (e.symm x c ∙ h)))
      ∙ sym (ap (λ (b : Bool). cond b (x ∷ filter (λ y. not (E x y)) known) (x ∷ filter (λ y. not (E x y)) known ++ c ∷ [])) (any_kept x c h known ∙ k))

  pub distinct_push : (xs : List X) (c : X) → distinct E (xs ++ c ∷ []) ≡ cond (list_any (E c) (distinct E xs)) (distinct E xs) (distinct E xs ++ c ∷ [])
  distinct_push [] c = refl
  distinct_push (x ∷ xs) c =
      ap (λ (zs : List X). x ∷ filter (λ y. not (E x y)) zs) (distinct_push xs c)
      ∙ push_step x c (distinct E xs) (E c x) refl (list_any (E c) (distinct E xs)) refl

module _ {X : Type 0} where
  pub differ : (E : X → X → Bool) (xs : List X) → AllPairs (λ a b. E a b ≡ false) (distinct E xs)
  differ E [] = λ i j d lt near. absurd (omega (arith, near))
  differ E (x ∷ xs) = AllPairs-cons (λ a b. E a b ≡ false) x (filter (λ y. not (E x y)) (distinct E xs))
      (λ k d lt. not-true (E x (get_or (filter (λ y. not (E x y)) (distinct E xs)) k d)) (filter_passes (λ y. not (E x y)) (distinct E xs) k d lt))
      (AllPairs-filter (λ a b. E a b ≡ false) (λ y. not (E x y)) (distinct E xs) (differ E xs))
