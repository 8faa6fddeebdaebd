-- What is held, and what stands at a place of a list.
use Rattle.std.proofs.Common.{◌≡◌, ℕ, zero, suc, ◌+◌, ◌<◌, List, [], ◌∷◌, ◌++◌, length, take, drop, Option, Some, None, slice_get, refl, sym, ◌∙◌, ap, arith, get_or, IfSome}
use Rattle.std.proofs.lemmas.Option.{none-some, same_Some, slice_get-get_or}

pub some_none : {X : Type 0} (x : X) → ◌≡◌ {A = Option X} (Some x) None → ⊥
some_none x e = cc

-- what stands at a place of a list
pub stands : {X : Type 0} (xs : List X) (i : ℕ) → i < length xs → (x : X) × (slice_get xs i ≡ Some x)
stands [] i l = absurd (omega (arith, l))
stands (x ∷ xs) i l = (get_or (x ∷ xs) i x, slice_get-get_or (x ∷ xs) i x l)

-- what stands in a piece of a list
pub in_drop : {X : Type 0} (xs : List X) (a j : ℕ) (x : X) → slice_get (drop a xs) j ≡ Some x → slice_get xs (a + j) ≡ Some x
in_drop [] zero j x e = absurd (none-some x e)
in_drop [] (suc a) j x e = absurd (none-some x e)
in_drop (y ∷ xs) zero j x e = let z : j ≡ 0 + j = omega arith in ap (slice_get (y ∷ xs)) (sym z) ∙ e
in_drop (y ∷ xs) (suc a) j x e = let z : suc (a + j) ≡ suc a + j = omega arith in ap (slice_get (y ∷ xs)) (sym z) ∙ in_drop xs a j x e

pub in_take : {X : Type 0} (xs : List X) (n j : ℕ) (x : X) → slice_get (take n xs) j ≡ Some x → (j < n) × (slice_get xs j ≡ Some x)
in_take xs zero j x e = absurd (none-some x e)
in_take [] (suc n) j x e = absurd (none-some x e)
in_take (y ∷ xs) (suc n) zero x e = (omega arith, e)
in_take (y ∷ xs) (suc n) (suc j) x e = let r : (j < n) × (slice_get xs j ≡ Some x) = in_take xs n j x e in (omega (arith, r.0), r.1)

-- the elements from place i on are the one at i and those behind it
pub drop_step : {X : Type 0} (xs : List X) (i : ℕ) (x : X) → slice_get xs i ≡ Some x → drop i xs ≡ x ∷ drop (i + 1) xs
drop_step [] i x h = absurd (none-some x h)
drop_step (y ∷ xs) zero x h = ap (λ z. z ∷ xs) (same_Some y x h)
drop_step (y ∷ xs) (suc i) x h = let n : suc i + 1 ≡ suc (i + 1) = omega arith in drop_step xs i x h ∙ ap (λ (k : ℕ). x ∷ drop k (y ∷ xs)) (sym n)

-- ---- places in a list that grows at its end
pub get_front : {X : Type 0} (xs ys : List X) (i : ℕ) → i < length xs → slice_get (xs ++ ys) i ≡ slice_get xs i
get_front [] ys i l = absurd (omega (arith, l))
get_front (x ∷ xs) ys zero l = refl
get_front (x ∷ xs) ys (suc i) l = get_front xs ys i (omega (arith, l))

pub get_last : {X : Type 0} (xs : List X) (x : X) (i : ℕ) → length xs ≡ i → slice_get (xs ++ x ∷ []) i ≡ Some x
get_last [] x zero e = refl
get_last [] x (suc i) e = absurd (omega (arith, e))
get_last (y ∷ xs) x zero e = absurd (omega (arith, e))
get_last (y ∷ xs) x (suc i) e = get_last xs x i (omega (arith, e))

-- ---- what holds of what is there
pub if_some : {X : Type 0} (P Q : X → Type 0) (o : Option X) → ((x : X) → P x → Q x) → IfSome o P → IfSome o Q
if_some P Q None f h = tt
if_some P Q (Some x) f h = f x h
