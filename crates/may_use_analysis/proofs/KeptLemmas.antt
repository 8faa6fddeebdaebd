-- Entries of a list of lists.
use Rattle.std.proofs.Common.{◌≡◌, ℕ, zero, suc, ◌+◌, ◌<◌, ◌≤◌, List, [], ◌∷◌, ◌++◌, length, take, get_or, map, refl, sym, ap, ◌∙◌, subst, inl, inr, ◌⊎◌, arith, length-append}
use Rattle.std.proofs.Math.ListN.{get_or-map}
use Rattle.std.proofs.Math.Seq.{get_or-append_seam}
use Rattle.std.proofs.lemmas.Bool.{cases_lt}
use Rattle.std.proofs.lemmas.List.{get_or-take, length-take, map-append}
use Rattle.may_use_analysis.specs.declared.kept.Kept.{Kept}
use Rattle.may_use_analysis.specs.declared.kept.Kept.TheVariants.{Own, Same, Short, Count}
use Rattle.may_use_analysis.specs.PointList.{PointList, Listed, IsHeld, IsKept, AreKept, own_list, point_list_of, point_lists, RefersBack, AllReferBack}

-- two lists of entries that agree below n
abbrev AgreeBelow : List Kept → List Kept → ℕ → Type 0
AgreeBelow xs ys n = (k : ℕ) → k < n → get_or xs k (Count 0) ≡ get_or ys k (Count 0)

stored_agree : (xs ys : List Kept) (n i : ℕ) (e : Kept) → AgreeBelow xs ys n → i ≤ n → RefersBack i e → point_list_of xs e ≡ point_list_of ys e
stored_agree xs ys n i (Own list) same le r = refl
stored_agree xs ys n i (Same k) same le r = ap (λ (z : Kept). Listed (own_list z)) (same k (omega (arith, r)))
stored_agree xs ys n i Short same le r = refl
stored_agree xs ys n i (Count m) same le r = refl

-- each of these entries, which begin at place i, refers to an earlier one
abbrev ReferFrom : ℕ → List Kept → Type 0
ReferFrom i [] = Unit {0}
ReferFrom i (e ∷ es) = RefersBack i e × ReferFrom (suc i) es

refer_from : (i : ℕ) (es : List Kept) → ((k : ℕ) (d : Kept) → k < length es → RefersBack (i + k) (get_or es k d)) → ReferFrom i es
refer_from i [] h = tt
refer_from i (e ∷ es) h =
    (subst (λ (j : ℕ). RefersBack j e) (omega arith) (h 0 e (omega arith)), refer_from (suc i) es (λ k d lt. subst (λ (j : ℕ). RefersBack j (get_or es k d)) (omega arith) (h (suc k) d (omega arith))))

map_agree : (xs ys es : List Kept) (n i : ℕ) → AgreeBelow xs ys n → i + length es ≤ n → ReferFrom i es → map (point_list_of xs) es ≡ map (point_list_of ys) es
map_agree xs ys [] n i same le r = refl
map_agree xs ys (e ∷ es) n i same le r =
    ap (λ (z : PointList). z ∷ map (point_list_of xs) es) (stored_agree xs ys n i e same (omega arith) r.0) ∙ ap (λ (zs : List PointList). point_list_of ys e ∷ zs) (map_agree xs ys es n (suc i) same (omega arith) r.1)

map_take : {X Y : Type 0} (f : X → Y) (n : ℕ) (xs : List X) → map f (take n xs) ≡ take n (map f xs)
map_take f zero xs = refl
map_take f (suc n) [] = refl
map_take f (suc n) (x ∷ xs) = ap (λ zs. f x ∷ zs) (map_take f n xs)

at_front : (xs : List Kept) (e : Kept) → AgreeBelow (xs ++ e ∷ []) xs (length xs)
at_front [] e k lt = absurd (omega arith)
at_front (x ∷ xs) e zero lt = refl
at_front (x ∷ xs) e (suc k) lt = at_front xs e k (omega arith)

-- one more entry
pub pushed : (xs ys : List Kept) (e : Kept) → ys ≡ xs ++ e ∷ [] → AllReferBack xs → RefersBack (length xs) e → point_lists ys ≡ point_lists xs ++ point_list_of xs e ∷ []
pushed xs ys e is all r =
    let zs = xs ++ e ∷ [] in
    ap point_lists is
    ∙ map-append (point_list_of zs) xs (e ∷ [])
    ∙ ap (λ (l : List PointList). l ++ point_list_of zs e ∷ []) (map_agree zs xs xs (length xs) 0 (at_front xs e) (omega arith) (refer_from 0 xs (λ k d lt. subst (λ (j : ℕ). RefersBack j (get_or xs k d)) (omega arith) (all k d lt))))
    ∙ ap (λ (s : PointList). point_lists xs ++ s ∷ []) (stored_agree zs xs (length xs) (length xs) e (at_front xs e) (omega arith) r)

pub pushed_back : (xs ys : List Kept) (e : Kept) → ys ≡ xs ++ e ∷ [] → AllReferBack xs → RefersBack (length xs) e → AllReferBack ys
pushed_back xs ys e is all r i d lt =
    let n = length-append xs (e ∷ []) in
    subst (λ (zs : List Kept). RefersBack i (get_or zs i d)) (sym is) (go (cases_lt i (length xs)) (omega (arith, ap length is, lt)))
  where
    go : (i < length xs) ⊎ (length xs ≤ i) → i < length xs + 1 → RefersBack i (get_or (xs ++ e ∷ []) i d)
    go (inl h) up = subst (RefersBack i) (sym (front xs i h)) (all i d h)
      where
        front : (zs : List Kept) (j : ℕ) → j < length zs → get_or (zs ++ e ∷ []) j d ≡ get_or zs j d
        front [] j lt = absurd (omega arith)
        front (z ∷ zs) zero lt = refl
        front (z ∷ zs) (suc j) lt = front zs j (omega arith)
    go (inr h) up =
        let at : i ≡ length xs = omega arith in
        subst (λ (j : ℕ). RefersBack j (get_or (xs ++ e ∷ []) j d)) (sym at) (subst (RefersBack (length xs)) (sym (get_or-append_seam xs e [] d)) r)

-- the first n entries
pub cut_back : (xs ys : List Kept) (n : ℕ) → ys ≡ take n xs → AllReferBack xs → AllReferBack ys
cut_back xs ys n is all i d lt =
    let few = length-take n xs in
    let below : i < n = omega (arith, ap length is, lt) in
    let inside : i < length xs = omega (arith, ap length is, lt) in
    subst (λ (zs : List Kept). RefersBack i (get_or zs i d)) (sym is) (subst (RefersBack i) (sym (get_or-take n xs i d below)) (all i d inside))

pub cut : (xs ys : List Kept) (n : ℕ) → ys ≡ take n xs → AllReferBack xs → point_lists ys ≡ take n (point_lists xs)
cut xs ys n is all =
    let zs = take n xs in
    let few = length-take n xs in
    ap point_lists is
    ∙ map_agree zs xs zs (length zs) 0 (λ k lt. get_or-take n xs k (Count 0) (omega (arith, few, lt))) (omega arith) (refer_from 0 zs (λ k d lt. subst (λ (j : ℕ). RefersBack j (get_or zs k d)) (omega arith) (cut_back xs zs n refl all k d lt)))
    ∙ map_take (point_list_of xs) n xs

pub stored_length : (xs : List Kept) (f : Kept → PointList) → length (map f xs) ≡ length xs
stored_length [] f = refl
stored_length (x ∷ xs) f = ap suc (stored_length xs f)

entry_kept : (xs : List Kept) (e : Kept) → IsHeld e → IsKept (point_list_of xs e)
entry_kept xs (Own list) h = tt
entry_kept xs (Same k) h = tt
entry_kept xs Short h = absurd h
entry_kept xs (Count n) h = tt

pub all_kept : (xs : List Kept) → ((k : ℕ) → k < length xs → IsHeld (get_or xs k (Count 0))) → AreKept (point_lists xs)
all_kept xs h i lt =
    let within : i < length xs = omega (arith, lt, stored_length xs (point_list_of xs)) in
    subst IsKept (sym (get_or-map (point_list_of xs) xs i (Count 0))) (entry_kept xs (get_or xs i (Count 0)) (h i within))
