-- Entries of elements with how many are the same, one more.
use Rattle.std.proofs.Common.{◌≡◌, ℕ, zero, suc, ◌+◌, ◌<◌, ◌≤◌, Bool, true, false, cond, not, ◌||◌, List, [], ◌∷◌, ◌++◌, map, length, take, get_or, Option, Some, None, refl, sym, ap, subst, ◌∙◌, arith}
use Rattle.std.specs.Prelude.{unwrap_or}
use Rattle.std.specs.List.{All, AllPairs, count_by, filter, list_any}
use Rattle.std.specs.Map.{lookup}
use Rattle.std.specs.Cmp.{IsEquivalence}
use Rattle.std.proofs.lemmas.List.{length-take-le, take_more}
use Rattle.std.proofs.lemmas.List.Sums.{count_by-le-length, sum_by-append, sum_by-cons}
use Rattle.indexmap.specs.IndexMap.{insert_entry}
use Rattle.waiting_pairs.specs.Rows.{distinct}
use Rattle.waiting_pairs.proofs.Distinct.{any_kept, differ, distinct_push}

module _ {X : Type 0} (E : X → X → Bool) (e : IsEquivalence E) (equal : (x y : X) → E x y ≡ true → x ≡ y) where
  abbrev with_counts : List X → List X → List (X × ℕ)
  with_counts xs ys = map (λ y. (y, count_by (E y) xs)) ys

  -- ---- counts
  abbrev bit : Bool → ℕ
  bit b = cond b 1 0

  count_push : (p : X → Bool) (xs : List X) (c : X) → count_by p (xs ++ c ∷ []) ≡ count_by p xs + (0 + bit (p c))
  count_push p xs c = sum_by-append (λ y. cond (p y) 1 0) xs (c ∷ [])

  one_more : (p : X → Bool) (xs : List X) (c : X) → p c ≡ true → count_by p (xs ++ c ∷ []) ≡ count_by p xs + 1
  one_more p xs c h =
      let last : count_by p xs + (0 + 1) ≡ count_by p xs + 1 = omega arith in
      count_push p xs c ∙ ap (λ (b : Bool). count_by p xs + (0 + bit b)) h ∙ last

  no_more : (p : X → Bool) (xs : List X) (c : X) → p c ≡ false → count_by p (xs ++ c ∷ []) ≡ count_by p xs
  no_more p xs c h =
      let last : count_by p xs + (0 + 0) ≡ count_by p xs = omega arith in
      count_push p xs c ∙ ap (λ (b : Bool). count_by p xs + (0 + bit b)) h ∙ last

  or_left : (a b : Bool) → (a || b) ≡ false → a ≡ false
  or_left true b h = h
  or_left false b h = refl

  or_right : (a b : Bool) → a ≡ false → (a || b) ≡ false → b ≡ false
  or_right true b g h = cc
  or_right false b g h = h

  -- what is no element of the list is in it no time
  none_of : (c : X) (xs : List X) → list_any (E c) (distinct E xs) ≡ false → count_by (E c) xs ≡ 0
  none_of c [] h = refl
  none_of c (x ∷ xs) h =
      let first : E c x ≡ false = or_left (E c x) (list_any (E c) (filter (λ y. not (E x y)) (distinct E xs))) h in
      let rest = or_right (E c x) (list_any (E c) (filter (λ y. not (E x y)) (distinct E xs))) first h in
      let n : count_by (E c) xs ≡ 0 = none_of c xs (sym (any_kept E e x c first (distinct E xs)) ∙ rest) in
      let last : 0 + count_by (E c) xs ≡ 0 = omega (arith, n) in
      sum_by-cons (λ y. cond (E c y) 1 0) x xs ∙ ap (λ (b : Bool). bit b + count_by (E c) xs) first ∙ last

  -- ---- what an entry says
  said_on : (c y : X) (xs ys : List X) (a : Bool) → E c y ≡ a → (b : Bool) → (a || list_any (E c) ys) ≡ b
      → ((z : Bool) → list_any (E c) ys ≡ z → lookup (E c) (with_counts xs ys) ≡ cond z (Some (count_by (E c) xs)) None)
      → cond a (Some (count_by (E y) xs)) (lookup (E c) (with_counts xs ys)) ≡ cond b (Some (count_by (E c) xs)) None
  said_on c y xs ys true k b h go = ap (λ (z : X). Some (count_by (E z) xs)) (sym (equal c y k)) ∙ ap (λ (z : Bool). cond z (Some (count_by (E c) xs)) None) h
  said_on c y xs ys false k b h go = go b h

  said : (c : X) (xs ys : List X) (b : Bool) → list_any (E c) ys ≡ b → lookup (E c) (with_counts xs ys) ≡ cond b (Some (count_by (E c) xs)) None
  said c xs [] b h = ap (λ (z : Bool). cond z (Some (count_by (E c) xs)) None) h
  said c xs (y ∷ ys) b h = said_on c y xs ys (E c y) refl b h (λ z k. said c xs ys z k)

  pub count_is : (c : X) (xs : List X) → unwrap_or (lookup (E c) (with_counts xs (distinct E xs))) 0 ≡ count_by (E c) xs
  count_is c xs = go (list_any (E c) (distinct E xs)) refl
    where
      go : (b : Bool) → list_any (E c) (distinct E xs) ≡ b → unwrap_or (lookup (E c) (with_counts xs (distinct E xs))) 0 ≡ count_by (E c) xs
      go true h = ap (λ (o : Option ℕ). unwrap_or o 0) (said c xs (distinct E xs) true h)
      go false h = ap (λ (o : Option ℕ). unwrap_or o 0) (said c xs (distinct E xs) false h) ∙ sym (none_of c xs h)

  -- ---- one more
  -- elements that aren't the same as the new one keep their counts
  kept : (c : X) (xs ys : List X) → All (λ y. E c y ≡ false) ys → with_counts xs ys ≡ with_counts (xs ++ c ∷ []) ys
  kept c xs [] h = refl
  kept c xs (y ∷ ys) h =
      let g : E y c ≡ false = e.symm y c ∙ h 0 y (omega arith) in
      ap (λ (m : ℕ). (y, m) ∷ with_counts xs ys) (sym (no_more (E y) xs c g))
      ∙ ap (λ (l : List (X × ℕ)). (y, count_by (E y) (xs ++ c ∷ [])) ∷ l) (kept c xs ys (λ k d lt. h (suc k) d (omega (arith, lt))))

  -- none of the others is the same as the one that is the new one
  apart : (c y : X) (ys : List X) → E c y ≡ true → AllPairs (λ a b. E a b ≡ false) (y ∷ ys) → All (λ z. E c z ≡ false) ys
  apart c y ys same h k d lt = e.congr c y (get_or ys k d) same ∙ h 0 (suc k) d (omega arith) (omega (arith, lt))

  behind : (y : X) (ys : List X) → AllPairs (λ a b. E a b ≡ false) (y ∷ ys) → AllPairs (λ a b. E a b ≡ false) ys
  behind y ys h i j d lt near = h (suc i) (suc j) d (omega (arith, lt)) (omega (arith, near))

  inserted_on : (c y : X) (xs ys : List X) (n : ℕ) → n ≡ count_by (E c) xs + 1 → AllPairs (λ a b. E a b ≡ false) (y ∷ ys)
      → (a : Bool) → E c y ≡ a → (b : Bool) → (a || list_any (E c) ys) ≡ b
      → ((z : Bool) → list_any (E c) ys ≡ z → insert_entry E (with_counts xs ys) c n ≡ with_counts (xs ++ c ∷ []) (cond z ys (ys ++ c ∷ [])))
      → cond a ((y, n) ∷ with_counts xs ys) ((y, count_by (E y) xs) ∷ insert_entry E (with_counts xs ys) c n) ≡ with_counts (xs ++ c ∷ []) (cond b (y ∷ ys) (y ∷ (ys ++ c ∷ [])))
  inserted_on c y xs ys n is far true k b h go =
      let m : n ≡ count_by (E y) (xs ++ c ∷ []) = is ∙ sym (one_more (E c) xs c (e.refl c)) ∙ ap (λ (z : X). count_by (E z) (xs ++ c ∷ [])) (equal c y k) in
      ap (λ (i : ℕ). (y, i) ∷ with_counts xs ys) m
      ∙ ap (λ (l : List (X × ℕ)). (y, count_by (E y) (xs ++ c ∷ [])) ∷ l) (kept c xs ys (apart c y ys k far))
      ∙ ap (λ (z : Bool). with_counts (xs ++ c ∷ []) (cond z (y ∷ ys) (y ∷ (ys ++ c ∷ [])))) h
  inserted_on c y xs ys n is far false k true h go =
      ap (λ (i : ℕ). (y, i) ∷ insert_entry E (with_counts xs ys) c n) (sym (no_more (E y) xs c (e.symm y c ∙ k)))
      ∙ ap (λ (l : List (X × ℕ)). (y, count_by (E y) (xs ++ c ∷ [])) ∷ l) (go true h)
  inserted_on c y xs ys n is far false k false h go =
      ap (λ (i : ℕ). (y, i) ∷ insert_entry E (with_counts xs ys) c n) (sym (no_more (E y) xs c (e.symm y c ∙ k)))
      ∙ ap (λ (l : List (X × ℕ)). (y, count_by (E y) (xs ++ c ∷ [])) ∷ l) (go false h)

  inserted : (c : X) (xs ys : List X) (n : ℕ) → n ≡ count_by (E c) xs + 1 → AllPairs (λ a b. E a b ≡ false) ys → (b : Bool) → list_any (E c) ys ≡ b
      → insert_entry E (with_counts xs ys) c n ≡ with_counts (xs ++ c ∷ []) (cond b ys (ys ++ c ∷ []))
  inserted c xs [] n is far true h = cc
  inserted c xs [] n is far false h = ap (λ (m : ℕ). (c, m) ∷ []) (is ∙ sym (one_more (E c) xs c (e.refl c)))
  inserted c xs (y ∷ ys) n is far b h = inserted_on c y xs ys n is far (E c y) refl b h (λ z k. inserted c xs ys n is (behind y ys far) z k)

  pub counted_push : (c : X) (xs : List X) (n : ℕ) → n ≡ count_by (E c) xs + 1
      → insert_entry E (with_counts xs (distinct E xs)) c n ≡ with_counts (xs ++ c ∷ []) (distinct E (xs ++ c ∷ []))
  counted_push c xs n is =
      inserted c xs (distinct E xs) n is (differ E xs) (list_any (E c) (distinct E xs)) refl
      ∙ ap (with_counts (xs ++ c ∷ [])) (sym (distinct_push E e xs c))

  -- one more element of a list
  pub counted_more : (xs : List X) (i : ℕ) (c : X) (n : ℕ) (old new : List (X × ℕ)) → i < length xs → c ≡ get_or xs i c
      → old ≡ with_counts (take i xs) (distinct E (take i xs)) → n ≡ unwrap_or (lookup (E c) old) 0 → new ≡ insert_entry E old c (n + 1)
      → new ≡ with_counts (take (i + 1) xs) (distinct E (take (i + 1) xs))
  counted_more xs i c n old new lt is so_far said_is entry =
      let m : n ≡ count_by (E c) (take i xs) = said_is ∙ ap (λ (l : List (X × ℕ)). unwrap_or (lookup (E c) l) 0) so_far ∙ count_is c (take i xs) in
      let more : take (i + 1) xs ≡ take i xs ++ c ∷ [] = take_more xs i c lt ∙ ap (λ (z : X). take i xs ++ z ∷ []) (sym is) in
      entry ∙ ap (λ (l : List (X × ℕ)). insert_entry E l c (n + 1)) so_far
      ∙ counted_push c (take i xs) (n + 1) (ap (λ (k : ℕ). k + 1) m)
      ∙ ap (λ (l : List X). with_counts l (distinct E l)) (sym more)

  -- and its count is no more than there were before it
  pub counted_few : (xs : List X) (i : ℕ) (c : X) (n : ℕ) (old : List (X × ℕ)) → i ≤ length xs
      → old ≡ with_counts (take i xs) (distinct E (take i xs)) → n ≡ unwrap_or (lookup (E c) old) 0 → n ≤ i
  counted_few xs i c n old le so_far said_is =
      let m : n ≡ count_by (E c) (take i xs) = said_is ∙ ap (λ (l : List (X × ℕ)). unwrap_or (lookup (E c) l) 0) so_far ∙ count_is c (take i xs) in
      let few = count_by-le-length (E c) (take i xs) in
      let long = length-take-le i xs le in
      omega (arith, m, few, long)
