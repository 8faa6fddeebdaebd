-- Members of lists.
use Rattle.std.proofs.Common.{◌≡◌, ℕ, ◌+◌, ◌<◌, List, [], ◌∷◌, ◌++◌, map, length, get_or, take, drop, take_all, append-nil, sym, ◌∙◌, ap, refl, subst, inl, inr, ◌⊎◌, ◌↔◌, Contains, arith}
use Rattle.std.specs.List.{AllByRecursion}
use Rattle.std.proofs.lemmas.List.{take_more, drop_all}
use Rattle.std.proofs.lemmas.List.Elements.{Contains-append_left, Contains-append_right, Contains-append_cases, Contains-push, Contains-push_cases}
use Rattle.symbolic_ops.specs.declared.symbol.Symbol.{Symbol}
use Rattle.may_use_analysis.specs.Steps.{Step, back}
use Rattle.may_use_analysis.specs.Trails.{Back}
use Rattle.may_use_analysis.specs.Ordered.{Are}
use Rattle.may_use_analysis.proofs.Unique.{none_in_nil, cons_cases, cons_head, cons_tail}

contains_push : {X : Type 0} (xs : List X) (x q : X) → Contains (xs ++ x ∷ []) q ↔ (Contains xs q ⊎ (q ≡ x))
contains_push {X} xs x q = (λ m. there (Contains-push_cases xs x q m), back_again)
  where
    there : Contains xs q ⊎ (x ≡ q) → Contains xs q ⊎ (q ≡ x)
    there (inl m) = inl m
    there (inr e) = inr (sym e)

    back_again : Contains xs q ⊎ (q ≡ x) → Contains (xs ++ x ∷ []) q
    back_again (inl m) = Contains-append_left xs (x ∷ []) q m
    back_again (inr e) = subst (λ z. Contains (xs ++ x ∷ []) z) (sym e) (Contains-push xs x)

-- one more element of a list
pub contains_more : {X : Type 0} (xs : List X) (i : ℕ) (d x : X) → i < length xs → x ≡ get_or xs i d → (q : X) → Contains (take (i + 1) xs) q ↔ (Contains (take i xs) q ⊎ (q ≡ x))
contains_more xs i d x h e q =
    subst (λ zs. Contains zs q ↔ (Contains (take i xs) q ⊎ (q ≡ x))) (ap (λ y. take i xs ++ y ∷ []) e ∙ sym (take_more xs i d h)) (contains_push (take i xs) x q)

-- one more of a list's elements is in another list
pub all_more : {X : Type 0} (list xs : List X) (i : ℕ) (d x : X) → i < length xs → x ≡ get_or xs i d → Contains list x → ((s : X) → Contains (take i xs) s → Contains list s) → (s : X) → Contains (take (i + 1) xs) s → Contains list s
all_more list xs i d x h e m all s k = go ((contains_more xs i d x h e s).0 k)
  where
    go : Contains (take i xs) s ⊎ (s ≡ x) → Contains list s
    go (inl c) = all s c
    go (inr f) = subst (Contains list) (sym f) m

-- the members of two lists, one behind the other
pub contains_both : {X : Type 0} (xs ys : List X) (q : X) → Contains (xs ++ ys) q ↔ (Contains xs q ⊎ Contains ys q)
contains_both xs ys q = (Contains-append_cases xs ys q, back_again)
  where
    back_again : Contains xs q ⊎ Contains ys q → Contains (xs ++ ys) q
    back_again (inl m) = Contains-append_left xs ys q m
    back_again (inr m) = Contains-append_right xs ys q m

-- ---- symbols carried back

pub map_back : (step : Step) (xs : List Symbol) → Are (map (back step) xs) (Back step (Contains xs))
map_back step xs q = (there xs, λ b. back_again xs b.0 b.1 b.2)
  where
    there : (ys : List Symbol) → Contains (map (back step) ys) q → Back step (Contains ys) q
    there [] m = absurd (none_in_nil q m)
    there (y ∷ ys) m = go (cons_cases (back step y) (map (back step) ys) q m) (there ys)
      where
        go : (q ≡ back step y) ⊎ Contains (map (back step) ys) q → (Contains (map (back step) ys) q → Back step (Contains ys) q) → Back step (Contains (y ∷ ys)) q
        go (inl e) k = (y, cons_head y ys, e)
        go (inr c) k = let b = k c in (b.0, cons_tail y ys b.0 b.1, b.2)

    back_again : (ys : List Symbol) (z : Symbol) → Contains ys z → q ≡ back step z → Contains (map (back step) ys) q
    back_again [] z m e = absurd (none_in_nil z m)
    back_again (y ∷ ys) z m e = go (cons_cases y ys z m) (back_again ys z)
      where
        go : (z ≡ y) ⊎ Contains ys z → (Contains ys z → q ≡ back step z → Contains (map (back step) ys) q) → Contains (map (back step) (y ∷ ys)) q
        go (inl f) k = subst (Contains (map (back step) (y ∷ ys))) (sym (e ∙ ap (back step) f)) (cons_head (back step y) (map (back step) ys))
        go (inr c) k = cons_tail (back step y) (map (back step) ys) q (k c e)

unchanged : (step : Step) (xs : List Symbol) → AllByRecursion (λ s. back step s ≡ s) xs → map (back step) xs ≡ xs
unchanged step [] all = refl
unchanged step (x ∷ xs) all = ap (λ (z : Symbol). z ∷ map (back step) xs) all.0 ∙ ap (λ (zs : List Symbol). x ∷ zs) (unchanged step xs all.1)

-- where the step changes no symbol
pub same_back : (step : Step) (xs : List Symbol) → AllByRecursion (λ s. back step s ≡ s) xs → Are xs (Back step (Contains xs))
same_back step xs all = subst (λ (zs : List Symbol). Are zs (Back step (Contains xs))) (unchanged step xs all) (map_back step xs)

pub carried_members : (step : Step) (xs ys zs : List Symbol) → ys ≡ map (back step) xs → ((s : Symbol) → Contains zs s ↔ Contains ys s) → Are zs (Back step (Contains xs))
carried_members step xs ys zs e same s =
    let is = subst (λ (l : List Symbol). Are l (Back step (Contains xs))) (sym e) (map_back step xs) in
    (λ m. (is s).0 ((same s).0 m), λ b. (same s).1 ((is s).1 b))

-- ---- two lists joined

pub join_same : (xs ys : List Symbol) → ((s : Symbol) → Contains ys s → Contains xs s) → (q : Symbol) → Contains xs q ↔ (Contains xs q ⊎ Contains ys q)
join_same xs ys all q = (λ m. inl m, back_again)
  where
    back_again : Contains xs q ⊎ Contains ys q → Contains xs q
    back_again (inl m) = m
    back_again (inr m) = all q m

pub join_both : (xs ys zs ws : List Symbol) → zs ≡ xs ++ ys → ((s : Symbol) → Contains ws s ↔ Contains zs s) → (q : Symbol) → Contains ws q ↔ (Contains xs q ⊎ Contains ys q)
join_both xs ys zs ws e same q =
    let is = subst (λ (l : List Symbol). Contains l q ↔ (Contains xs q ⊎ Contains ys q)) (sym e) (contains_both xs ys q) in
    (λ m. is.0 ((same q).0 m), λ b. (same q).1 (is.1 b))

-- a part that was lent, written back
pub written_back : (n : ℕ) (p xs : List Symbol) → length p ≡ length xs → n ≡ length xs → take n (p ++ drop (length p) xs) ≡ p
written_back n p xs e f =
    ap (λ (z : List Symbol). take n (p ++ z)) (drop_all (length p) xs (omega arith)) ∙ ap (take n) (append-nil p) ∙ take_all n p (omega arith)

-- one more symbol of a list joins others of it
pub new_more : (list old new : List Symbol) (x : Symbol) → ((q : Symbol) → Contains old q → Contains list q) → Contains list x → ((q : Symbol) → Contains new q ↔ (Contains old q ⊎ (q ≡ x))) → (q : Symbol) → Contains new q → Contains list q
new_more list old new x all here add q m = go ((add q).0 m)
  where
    go : Contains old q ⊎ (q ≡ x) → Contains list q
    go (inl k) = all q k
    go (inr e) = subst (Contains list) (sym e) here
