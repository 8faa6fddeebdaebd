-- Sums over the numbers below a bound.
use Rattle.std.proofs.Common.{◌≡◌, ℕ, zero, suc, ◌+◌, ◌<◌, ◌≤◌, ◌⊎◌, inl, inr, Bool, true, false, cond, eqb, refl, sym, ap, subst, arith}
use Rattle.std.proofs.lemmas.Bool.Decides.{nat_tests}
use Rattle.session_values.specs.Sums.{sum_below}

pub sum_below_zero : (n : ℕ) → sum_below n (λ t. 0) ≡ 0
sum_below_zero zero = refl
sum_below_zero (suc n) = omega (arith, sum_below_zero n)

pub sum_below_le : (n : ℕ) (f g : ℕ → ℕ) → ((t : ℕ) → f t ≤ g t) → sum_below n f ≤ sum_below n g
sum_below_le zero f g h = omega arith
sum_below_le (suc n) f g h = omega (arith, sum_below_le n f g h, h n)

pub sum_below_up : (k n : ℕ) (f : ℕ → ℕ) → k ≤ n → sum_below k f ≤ sum_below n f
sum_below_up k zero f h = let e : k ≡ 0 = omega (arith, h) in let P : ℕ → Type 0 = λ j. sum_below j f ≤ 0 in subst P (sym e) (omega arith)
sum_below_up k (suc n) f h = elim (last k n h) [
  | inl l ↦ omega (arith, sum_below_up k n f l)
  | inr e ↦ let P : ℕ → Type 0 = λ j. sum_below j f ≤ sum_below (suc n) f in subst P (sym e) (omega arith)
]
  where
    last : (k n : ℕ) → k ≤ suc n → (k ≤ n) ⊎ (k ≡ suc n)
    last k n h = grind arith

pub sum_same : (n : ℕ) (f g : ℕ → ℕ) → ((t : ℕ) → f t ≡ g t) → sum_below n f ≡ sum_below n g
sum_same zero f g h = refl
sum_same (suc n) f g h = omega (arith, sum_same n f g h, h n)

-- one ticket's part grows
pub sum_none : (n u x : ℕ) (f : ℕ → ℕ) → n ≤ u → sum_below n (λ t. cond (eqb u t) (x + f t) (f t)) ≡ sum_below n f
sum_none zero u x f h = refl
sum_none (suc n) u x f h =
    let c : cond (eqb u n) (x + f n) (f n) ≡ f n = ap (λ (b : Bool). cond b (x + f n) (f n)) (apart u n h) in
    omega (arith, sum_none n u x f (omega arith), c)
  where
    apart : (u n : ℕ) → suc n ≤ u → eqb u n ≡ false
    apart u n h = grind (arith, nat_tests)

pub sum_more : (n u x : ℕ) (f : ℕ → ℕ) → u < n → sum_below n (λ t. cond (eqb u t) (x + f t) (f t)) ≡ x + sum_below n f
sum_more zero u x f h = absurd (omega arith)
sum_more (suc n) u x f h = by_last (eqb u n) refl (λ l. sum_more n u x f l)
  where
    itself : (u n : ℕ) → eqb u n ≡ true → n ≤ u
    itself u n e = grind (arith, nat_tests)

    less : (u n : ℕ) → u < suc n → eqb u n ≡ false → u < n
    less u n h e = grind (arith, nat_tests)

    by_last : (b : Bool) → eqb u n ≡ b → (u < n → sum_below n (λ t. cond (eqb u t) (x + f t) (f t)) ≡ x + sum_below n f) → sum_below (suc n) (λ t. cond (eqb u t) (x + f t) (f t)) ≡ x + sum_below (suc n) f
    by_last true e k = let c : cond (eqb u n) (x + f n) (f n) ≡ x + f n = ap (λ (b : Bool). cond b (x + f n) (f n)) e in omega (arith, sum_none n u x f (itself u n e), c)
    by_last false e k = let c : cond (eqb u n) (x + f n) (f n) ≡ f n = ap (λ (b : Bool). cond b (x + f n) (f n)) e in omega (arith, k (less u n h e), c)

pub sum_first : (n : ℕ) (f : ℕ → ℕ) → sum_below (suc n) f ≡ f 0 + sum_below n (λ t. f (suc t))
sum_first zero f = omega arith
sum_first (suc n) f = omega (arith, sum_first n f)

-- numbers that are the same below the bound have the same sum
pub sum_alike : (n : ℕ) (f g : ℕ → ℕ) → ((t : ℕ) → t < n → f t ≡ g t) → sum_below n f ≡ sum_below n g
sum_alike zero f g h = refl
sum_alike (suc n) f g h = omega (arith, sum_alike n f g (λ t l. h t (omega (arith, l))), h n (omega arith))
