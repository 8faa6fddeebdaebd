-- The search for a symbol above another one.
use Rattle.std.proofs.Common.{◌≡◌, ℕ, zero, suc, ◌<◌, List, [], ◌∷◌, length, take, get_or, inl, inr, subst, arith}
use Rattle.symbolic_ops.specs.declared.symbol.Symbol.{Symbol}
use Rattle.symbolic_ops.specs.Matching.{Below, IsBelowSome}

-- a symbol of the list that is above
pub below_at : (s : Symbol) (list : List Symbol) (i : ℕ) (x : Symbol) → i < length list → x ≡ get_or list i x → Below s x → IsBelowSome s list
below_at s [] i x l is b = let k : ⊥ = omega (arith, l) in absurd k
below_at s (y ∷ list) zero x l is b = let P : Symbol → Type 0 = λ z. Below s z in inl (subst P is b)
below_at s (y ∷ list) (suc i) x l is b = let l2 : i < length list = omega (arith, l) in inr (below_at s list i x l2 is b)

-- none among the first i and not the next one: none among the first i + 1
pub still_none : (s : Symbol) (list : List Symbol) (i : ℕ) (x : Symbol) → i < length list → x ≡ get_or list i x → (IsBelowSome s (take i list) → ⊥) → (Below s x → ⊥) → IsBelowSome s (take (suc i) list) → ⊥
still_none s [] i x l is none not b = let k : ⊥ = omega (arith, l) in k
still_none s (y ∷ list) zero x l is none not (inl b) = let P : Symbol → Type 0 = λ z. Below s z → ⊥ in subst P is not b
still_none s (y ∷ list) zero x l is none not (inr b) = b
still_none s (y ∷ list) (suc i) x l is none not (inl b) = none (inl b)
still_none s (y ∷ list) (suc i) x l is none not (inr b) = let l2 : i < length list = omega (arith, l) in still_none s list i x l2 is (λ h. none (inr h)) not b
