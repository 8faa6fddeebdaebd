-- Lists in order: what a sort leaves, what a search finds, and an element in its place.
use Rattle.std.proofs.Common.{◌≡◌, ◌↔◌, ℕ, ◌+◌, ◌<◌, ◌≤◌, true, false, List, [], ◌∷◌, ◌++◌, length, take, drop, get_or, subst, refl, sym, ap, ◌∙◌, inl, inr, ◌⊎◌, arith}
use Rattle.std.specs.Prelude.{Result, Ok, Err}
use Rattle.std.specs.Cmp.{IsTotalOrder, IsStrictWeakOrder}
use Rattle.std.specs.List.{All, AllByRecursion, AllWithin, Contains, dedup, insert}
use Rattle.std.specs.List.Sorted.{IsPermutation, IsSorted, IsStrictlySortedBy, IsBinarySearchResult, IsSearchInRange}
use Rattle.std.proofs.lemmas.List.{take-append-drop, length-take-le, length-drop, get_or-take, get_or-drop}
use Rattle.std.proofs.lemmas.List.Kept.{IsStrictlySortedBy-dedup, Contains-dedup, Contains-from_dedup}
use Rattle.std.proofs.lemmas.List.Sorted.{Contains-permutation, IsPermutation-insert, IsPermutation-sym, searchable_from_sorted}
use Rattle.std.proofs.lemmas.List.Elements.{recursion_from_All}
use Rattle.std.proofs.lemmas.Map.Keys.{Less-from_sorted}
use Rattle.std.proofs.lemmas.Cmp.{eq_by_cmp_equiv}
use Rattle.std.specs.Ordering.{ordering_reverse, is_lt, is_eq, eq_by_cmp}
use Rattle.std.specs.declared.cmp.Ordering.{Ordering}
use Rattle.std.specs.declared.cmp.Ordering.TheVariants.{Less, Equal, Greater}
use Rattle.symbolic_ops.specs.Order.{symbol_cmp}
use Rattle.symbolic_ops.specs.declared.symbol.Symbol.{Symbol}
use Rattle.symbolic_ops.proofs.Orders.{symbol_cmp_total, symbol_exact}
use Rattle.may_use_analysis.specs.Ordered.{IsSearched}
use Rattle.may_use_analysis.proofs.Unique.{cons_cases, cons_head, cons_tail}

-- a total order's `Less` is a strict weak order
total_weak : {X : Type 0} (R : X → X → Ordering) → IsTotalOrder R → IsStrictWeakOrder (λ x y. is_lt (R x y))
total_weak {X} R total = record { one_way = λ x y h. one x y (R x y) refl h; chain = λ x y z h k. far x y z (R x z) (R x y) refl refl h k }
  where
    one : (x y : X) (o : Ordering) → R x y ≡ o → is_lt (R x y) ≡ true → is_lt (R y x) ≡ false
    one x y Less e h = ap is_lt (total.antisymm y x ∙ ap ordering_reverse e)
    one x y Equal e h = absurd (cc (sym (ap is_lt e) ∙ h))
    one x y Greater e h = absurd (cc (sym (ap is_lt e) ∙ h))

    far : (x y z : X) (o p : Ordering) → R x z ≡ o → R x y ≡ p → is_lt (R x y) ≡ false → is_lt (R y z) ≡ false → is_lt (R x z) ≡ false
    far x y z Equal p e f h k = ap is_lt e
    far x y z Greater p e f h k = ap is_lt e
    far x y z Less Less e f h k = absurd (cc (sym (ap is_lt f) ∙ h))
    far x y z Less Equal e f h k = absurd (cc (sym (ap is_lt (sym (total.congr x y z f) ∙ e)) ∙ k))
    far x y z Less Greater e f h k =
        let back : R y x ≡ Less = total.antisymm y x ∙ ap ordering_reverse f in
        absurd (cc (sym (ap is_lt (total.trans y x z back e)) ∙ k))

pub symbol_order : IsStrictWeakOrder (λ x y. is_lt (symbol_cmp x y))
symbol_order = total_weak symbol_cmp symbol_cmp_total

-- what sorting and taking repetitions out leaves
pub in_order : (xs ys zs : List Symbol) → IsPermutation xs ys → IsSorted symbol_cmp ys → zs ≡ dedup (eq_by_cmp symbol_cmp) ys → IsStrictlySortedBy symbol_cmp zs
in_order xs ys zs p s e =
    subst (IsStrictlySortedBy symbol_cmp) (sym e) (IsStrictlySortedBy-dedup symbol_cmp_total (λ x y. refl) ys s)

pub eq_exact : (a b : Symbol) → eq_by_cmp symbol_cmp a b ≡ true → a ≡ b
eq_exact a b e = go (symbol_cmp a b) refl e
  where
    go : (o : Ordering) → symbol_cmp a b ≡ o → eq_by_cmp symbol_cmp a b ≡ true → a ≡ b
    go Equal f e = symbol_exact a b f
    go Less f e = absurd (cc (sym (ap is_eq f) ∙ e))
    go Greater f e = absurd (cc (sym (ap is_eq f) ∙ e))

pub same_members : (xs ys zs : List Symbol) → IsPermutation xs ys → IsPermutation ys xs → zs ≡ dedup (eq_by_cmp symbol_cmp) ys → (s : Symbol) → Contains zs s ↔ Contains xs s
same_members xs ys zs p q e s =
    (λ m. Contains-permutation ys xs s q (Contains-from_dedup (eq_by_cmp symbol_cmp) ys s (subst (λ (z : List Symbol). Contains z s) e m)), λ m. subst (λ (z : List Symbol). Contains z s) (sym e) (Contains-dedup (eq_by_cmp_equiv symbol_cmp_total) eq_exact ys s (Contains-permutation xs ys s p m)))

-- ---- searching

sorted_plainly : (xs : List Symbol) → IsStrictlySortedBy symbol_cmp xs → IsSorted symbol_cmp xs
sorted_plainly xs s k d from upto =
    ap is_lt (symbol_cmp_total.antisymm (get_or xs (k + 1) d) (get_or xs k d) ∙ ap ordering_reverse (Less-from_sorted symbol_cmp xs k (k + 1) d s (omega arith) upto))

within_take : (P : Symbol → Type 0) (xs : List Symbol) (i : ℕ) → i ≤ length xs → AllWithin P xs 0 i → All P (take i xs)
within_take P xs i le all k d lt =
    let below : k < i = omega (arith, lt, length-take-le i xs le) in
    subst P (sym (get_or-take i xs k d below)) (all k d (omega arith) below)

within_drop : (P : Symbol → Type 0) (xs : List Symbol) (i : ℕ) → i ≤ length xs → AllWithin P xs i (length xs) → All P (drop i xs)
within_drop P xs i le all k d lt =
    subst P (sym (get_or-drop i xs k d)) (all (i + k) d (omega arith) (omega (arith, lt, length-drop i xs)))

reversed : (q s : Symbol) → symbol_cmp q s ≡ Greater → symbol_cmp s q ≡ Less
reversed q s e = symbol_cmp_total.antisymm s q ∙ ap ordering_reverse e

pub searched : (xs : List Symbol) (s : Symbol) (r : Result ℕ ℕ) → IsStrictlySortedBy symbol_cmp xs → IsSearchInRange r (length xs) → IsBinarySearchResult (λ q. symbol_cmp q s) xs r → IsSearched xs s r
searched xs s (Ok i) sorted bound at = (i, bound, symbol_exact (get_or xs i s) s (at s))
searched xs s (Err i) sorted bound at =
    let parts = at (searchable_from_sorted symbol_cmp_total (λ q. q) xs s (sorted_plainly xs sorted)) in
    (bound, (within_take (λ q. symbol_cmp q s ≡ Less) xs i bound parts.0, within_drop (λ q. symbol_cmp s q ≡ Less) xs i bound (λ k d from upto. reversed (get_or xs k d) s (parts.1 k d from upto))))

-- ---- an element in its place

module _ {X : Type 0} (R : X → X → Ordering) where
  pub sorted_append : (xs ys : List X) → IsStrictlySortedBy R xs → IsStrictlySortedBy R ys → AllByRecursion (λ x. AllByRecursion (λ y. R x y ≡ Less) ys) xs → IsStrictlySortedBy R (xs ++ ys)
  unfolding IsStrictlySortedBy
  sorted_append [] ys a b h = b
  sorted_append (x ∷ xs) ys a b h = (both xs a.0, sorted_append xs ys a.1 b h.1)
    where
      both : (zs : List X) → AllByRecursion (λ y. R x y ≡ Less) zs → AllByRecursion (λ y. R x y ≡ Less) (zs ++ ys)
      both [] k = h.0
      both (z ∷ zs) k = (k.0, both zs k.1)

  pub sorted_cons : (x : X) (xs : List X) → AllByRecursion (λ y. R x y ≡ Less) xs → IsStrictlySortedBy R xs → IsStrictlySortedBy R (x ∷ xs)
  unfolding IsStrictlySortedBy
  sorted_cons x xs h s = (h, s)

  sorted_front : (xs ys : List X) → IsStrictlySortedBy R (xs ++ ys) → IsStrictlySortedBy R xs
  unfolding IsStrictlySortedBy
  sorted_front [] ys s = tt
  sorted_front (x ∷ xs) ys s = (front xs s.0, sorted_front xs ys s.1)
    where
      front : (zs : List X) → AllByRecursion (λ y. R x y ≡ Less) (zs ++ ys) → AllByRecursion (λ y. R x y ≡ Less) zs
      front [] k = tt
      front (z ∷ zs) k = (k.0, front zs k.1)

  sorted_back : (xs ys : List X) → IsStrictlySortedBy R (xs ++ ys) → IsStrictlySortedBy R ys
  unfolding IsStrictlySortedBy
  sorted_back [] ys s = s
  sorted_back (x ∷ xs) ys s = sorted_back xs ys s.1

all_pairs : (xs ys : List Symbol) (s : Symbol) → AllByRecursion (λ q. symbol_cmp q s ≡ Less) xs → AllByRecursion (λ q. symbol_cmp s q ≡ Less) ys → AllByRecursion (λ x. AllByRecursion (λ y. symbol_cmp x y ≡ Less) (s ∷ ys)) xs
all_pairs [] ys s h k = tt
all_pairs (x ∷ xs) ys s h k = ((h.0, past ys k), all_pairs xs ys s h.1 k)
  where
    past : (zs : List Symbol) → AllByRecursion (λ q. symbol_cmp s q ≡ Less) zs → AllByRecursion (λ y. symbol_cmp x y ≡ Less) zs
    past [] k = tt
    past (z ∷ zs) k = (symbol_cmp_total.trans x s z h.0 k.0, past zs k.1)

pub inserted_sorted : (xs : List Symbol) (i : ℕ) (s : Symbol) → IsStrictlySortedBy symbol_cmp xs → IsSearched xs s (Err i) → IsStrictlySortedBy symbol_cmp (insert xs i s)
inserted_sorted xs i s sorted m =
    let whole : IsStrictlySortedBy symbol_cmp (take i xs ++ drop i xs) = subst (IsStrictlySortedBy symbol_cmp) (sym (take-append-drop i xs)) sorted in
    let front = recursion_from_All (λ q. symbol_cmp q s ≡ Less) (take i xs) m.1.0 in
    let past = recursion_from_All (λ q. symbol_cmp s q ≡ Less) (drop i xs) m.1.1 in
    sorted_append symbol_cmp (take i xs) (s ∷ drop i xs) (sorted_front symbol_cmp (take i xs) (drop i xs) whole) (sorted_cons symbol_cmp s (drop i xs) past (sorted_back symbol_cmp (take i xs) (drop i xs) whole)) (all_pairs (take i xs) (drop i xs) s front past)

pub inserted_members : (xs : List Symbol) (i : ℕ) (s q : Symbol) → Contains (insert xs i s) q ↔ (Contains xs q ⊎ (q ≡ s))
inserted_members xs i s q = (λ m. there (cons_cases s xs q (Contains-permutation (insert xs i s) (s ∷ xs) q (IsPermutation-sym (s ∷ xs) (insert xs i s) (IsPermutation-insert xs i s)) m)), back_again)
  where
    there : (q ≡ s) ⊎ Contains xs q → Contains xs q ⊎ (q ≡ s)
    there (inl e) = inr e
    there (inr m) = inl m

    back_again : Contains xs q ⊎ (q ≡ s) → Contains (insert xs i s) q
    back_again (inl m) = Contains-permutation (s ∷ xs) (insert xs i s) q (IsPermutation-insert xs i s) (cons_tail s xs q m)
    back_again (inr e) = subst (Contains (insert xs i s)) (sym e) (Contains-permutation (s ∷ xs) (insert xs i s) s (IsPermutation-insert xs i s) (cons_head s xs))

pub sorted_nil : {X : Type 0} (R : X → X → Ordering) (xs : List X) → xs ≡ [] → IsStrictlySortedBy R xs
unfolding IsStrictlySortedBy
sorted_nil R xs e = subst (IsStrictlySortedBy R) (sym e) tt
