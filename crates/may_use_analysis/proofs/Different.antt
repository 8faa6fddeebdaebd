-- Lists of different symbols, and whether a list has a symbol.
use Rattle.std.proofs.Common.{◌≡◌, suc, ◌≤◌, List, [], ◌∷◌, length, refl, sym, ap, ◌∙◌, subst, inl, inr, ◌⊎◌, Contains, arith}
use Rattle.std.specs.Ordering.{ordering_reverse}
use Rattle.std.specs.declared.cmp.Ordering.{Ordering}
use Rattle.std.specs.declared.cmp.Ordering.TheVariants.{Less, Equal, Greater}
use Rattle.symbolic_ops.specs.Order.{symbol_cmp}
use Rattle.symbolic_ops.specs.declared.symbol.Symbol.{Symbol}
use Rattle.symbolic_ops.proofs.Orders.{symbol_cmp_total, symbol_exact}
use Rattle.may_use_analysis.proofs.Unique.{none_in_nil, cons_cases, cons_head, cons_tail}

abbrev pub AreDifferent : List Symbol → Type 0
AreDifferent [] = Unit {0}
AreDifferent (x ∷ xs) = (Contains xs x → ⊥) × AreDifferent xs

-- what is left of a list without one of its elements
taken_out : (ys : List Symbol) (x : Symbol) → Contains ys x → (left : List Symbol) × (length ys ≡ suc (length left)) × ((s : Symbol) → Contains ys s → (s ≡ x) ⊎ Contains left s)
taken_out [] x m = absurd (none_in_nil x m)
taken_out (y ∷ ys) x m = go (cons_cases y ys x m) (taken_out ys x)
  where
    go : (x ≡ y) ⊎ Contains ys x → (Contains ys x → (left : List Symbol) × (length ys ≡ suc (length left)) × ((s : Symbol) → Contains ys s → (s ≡ x) ⊎ Contains left s)) → (left : List Symbol) × (length (y ∷ ys) ≡ suc (length left)) × ((s : Symbol) → Contains (y ∷ ys) s → (s ≡ x) ⊎ Contains left s)
    go (inl e) k = (ys, refl, λ s c. first s (cons_cases y ys s c))
      where
        first : (s : Symbol) → (s ≡ y) ⊎ Contains ys s → (s ≡ x) ⊎ Contains ys s
        first s (inl f) = inl (f ∙ sym e)
        first s (inr c) = inr c
    go (inr h) k = let r = k h in (y ∷ r.0, ap suc r.1, λ s c. later r.0 r.2 s (cons_cases y ys s c))
      where
        put : (left : List Symbol) (s : Symbol) → (s ≡ x) ⊎ Contains left s → (s ≡ x) ⊎ Contains (y ∷ left) s
        put left s (inl f) = inl f
        put left s (inr c) = inr (cons_tail y left s c)

        later : (left : List Symbol) → ((s : Symbol) → Contains ys s → (s ≡ x) ⊎ Contains left s) → (s : Symbol) → (s ≡ y) ⊎ Contains ys s → (s ≡ x) ⊎ Contains (y ∷ left) s
        later left r s (inl f) = inr (subst (Contains (y ∷ left)) (sym f) (cons_head y left))
        later left r s (inr c) = put left s (r s c)

-- different symbols of a list are no more than it has
pub no_more : (xs ys : List Symbol) → AreDifferent xs → ((s : Symbol) → Contains xs s → Contains ys s) → length xs ≤ length ys
no_more [] ys d h = omega arith
no_more (x ∷ xs) ys d h =
    let r = taken_out ys x (h x (cons_head x xs)) in
    let few = no_more xs r.0 d.1 (λ s m. left r.0 s m (r.2 s (h s (cons_tail x xs s m)))) in
    omega (arith, r.1, few)
  where
    left : (rest : List Symbol) (s : Symbol) → Contains xs s → (s ≡ x) ⊎ Contains rest s → Contains rest s
    left rest s m (inl e) = absurd (d.0 (subst (Contains xs) e m))
    left rest s m (inr c) = c

-- ---- whether a list has a symbol

is_itself : (s : Symbol) → symbol_cmp s s ≡ Equal
is_itself s = go (symbol_cmp s s) refl
  where
    go : (o : Ordering) → symbol_cmp s s ≡ o → symbol_cmp s s ≡ Equal
    go Equal e = e
    go Less e = absurd (cc (sym e ∙ symbol_cmp_total.antisymm s s ∙ ap ordering_reverse e))
    go Greater e = absurd (cc (sym e ∙ symbol_cmp_total.antisymm s s ∙ ap ordering_reverse e))

same_or_not : (a b : Symbol) → (a ≡ b) ⊎ (a ≡ b → ⊥)
same_or_not a b = go (symbol_cmp a b) refl
  where
    go : (o : Ordering) → symbol_cmp a b ≡ o → (a ≡ b) ⊎ (a ≡ b → ⊥)
    go Equal e = inl (symbol_exact a b e)
    go Less e = inr (λ f. absurd (cc (sym e ∙ ap (symbol_cmp a) (sym f) ∙ is_itself a)))
    go Greater e = inr (λ f. absurd (cc (sym e ∙ ap (symbol_cmp a) (sym f) ∙ is_itself a)))

has_or_not : (xs : List Symbol) (s : Symbol) → Contains xs s ⊎ (Contains xs s → ⊥)
has_or_not [] s = inr (none_in_nil s)
has_or_not (x ∷ xs) s = go (same_or_not s x) (has_or_not xs s)
  where
    neither : (s ≡ x → ⊥) → (Contains xs s → ⊥) → (s ≡ x) ⊎ Contains xs s → ⊥
    neither a b (inl e) = a e
    neither a b (inr m) = b m

    go : (s ≡ x) ⊎ (s ≡ x → ⊥) → Contains xs s ⊎ (Contains xs s → ⊥) → Contains (x ∷ xs) s ⊎ (Contains (x ∷ xs) s → ⊥)
    go (inl e) m = inl (subst (Contains (x ∷ xs)) (sym e) (cons_head x xs))
    go (inr n) (inl m) = inl (cons_tail x xs s m)
    go (inr n) (inr k) = inr (λ m. neither n k (cons_cases x xs s m))

-- a list has all of these, or there is one that it hasn't
pub all_or_one : (ys xs : List Symbol) → ((s : Symbol) → Contains ys s → Contains xs s) ⊎ ((s : Symbol) × Contains ys s × (Contains xs s → ⊥))
all_or_one [] xs = inl (λ s m. absurd (none_in_nil s m))
all_or_one (y ∷ ys) xs = go (has_or_not xs y) (all_or_one ys xs)
  where
    go : Contains xs y ⊎ (Contains xs y → ⊥) → ((s : Symbol) → Contains ys s → Contains xs s) ⊎ ((s : Symbol) × Contains ys s × (Contains xs s → ⊥)) → ((s : Symbol) → Contains (y ∷ ys) s → Contains xs s) ⊎ ((s : Symbol) × Contains (y ∷ ys) s × (Contains xs s → ⊥))
    go (inr n) r = inr (y, cons_head y ys, n)
    go (inl h) (inr r) = inr (r.0, cons_tail y ys r.0 r.1, r.2)
    go (inl h) (inl all) = inl (λ s m. each s (cons_cases y ys s m))
      where
        each : (s : Symbol) → (s ≡ y) ⊎ Contains ys s → Contains xs s
        each s (inl e) = subst (Contains xs) (sym e) h
        each s (inr m) = all s m
