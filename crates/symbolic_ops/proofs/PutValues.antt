-- A list whose front is mapped, one element further.
use Rattle.std.proofs.Common.{◌≡◌, ℕ, zero, suc, ◌+◌, ◌<◌, List, [], ◌∷◌, ◌++◌, length, map, take, drop, get_or, ◌∙◌, ap, subst, arith}
use Rattle.std.proofs.Math.ListN.{set}
use Rattle.std.specs.List.{AllByRecursion}

-- the front of i elements mapped, the rest as it was
abbrev pub partly : {X : Type 0} → (X → X) → ℕ → List X → List X
partly f i xs = map f (take i xs) ++ drop i xs

values_suc : {X : Type 0} (f : X → X) (xs : List X) (i : ℕ) (x y : X) → i < length xs → x ≡ get_or (partly f i xs) i x → y ≡ f x → set (partly f i xs) i y ≡ partly f (suc i) xs
values_suc f [] i x y l is e = let k : ⊥ = omega (arith, l) in absurd k
values_suc f (z ∷ xs) zero x y l is e = ap (λ w. w ∷ xs) (e ∙ ap f is)
values_suc f (z ∷ xs) (suc i) x y l is e = let k : i < length xs = omega (arith, l) in ap (λ ws. f z ∷ ws) (values_suc f xs i x y k is e)

known_suc : {X : Type 0} (P : X → Type 0) (f : X → X) (xs : List X) (i : ℕ) (x y : X) → i < length xs → x ≡ get_or (partly f i xs) i x → y ≡ f x → P y → AllByRecursion P (map f (take i xs)) → AllByRecursion P (map f (take (suc i) xs))
known_suc P f [] i x y l is e p h = tt
known_suc P f (z ∷ xs) zero x y l is e p h = (subst P (e ∙ ap f is) p, tt)
known_suc P f (z ∷ xs) (suc i) x y l is e p h = let k : i < length xs = omega (arith, l) in (h.0, known_suc P f xs i x y k is e p h.1)

pub values_put : {X : Type 0} (f : X → X) (xs ys : List X) (i : ℕ) (x y : X) → i < length xs → ys ≡ partly f i xs → x ≡ get_or ys i x → y ≡ f x → set ys i y ≡ partly f (i + 1) xs
values_put {X} f xs ys i x y l at is e =
    let n : suc i ≡ i + 1 = omega arith in
    ap (λ zs. set zs i y) at ∙ values_suc f xs i x y l (is ∙ ap (λ zs. get_or zs i x) at) e ∙ ap (λ j. partly f j xs) n

pub known_put : {X : Type 0} (P : X → Type 0) (f : X → X) (xs ys : List X) (i : ℕ) (x y : X) → i < length xs → ys ≡ partly f i xs → x ≡ get_or ys i x → y ≡ f x → P y → AllByRecursion P (map f (take i xs)) → AllByRecursion P (map f (take (i + 1) xs))
known_put {X} P f xs ys i x y l at is e p h =
    let n : suc i ≡ i + 1 = omega arith in
    subst (λ j. AllByRecursion P (map f (take j xs))) n (known_suc P f xs i x y l (is ∙ ap (λ zs. get_or zs i x) at) e p h)
