-- Turns with their values, by place and by turn.
use Rattle.std.proofs.Common.{◌≡◌, ◌≢◌, ℕ, zero, suc, ◌+◌, ◌<◌, ◌≤◌, List, [], ◌∷◌, ◌++◌, length, Option, Some, None, Bool, true, false, cond, eqb, refl, sym, ◌∙◌, ap, subst, arith}
use Rattle.std.specs.Prelude.{slice_get}
use Rattle.std.specs.Int.{bit_at}
use Rattle.std.proofs.Math.ListN.{set}
use Rattle.std.proofs.lemmas.Bool.{eq-eqb, eqb-false, eqb-true, ne_eqb}
use Rattle.std.proofs.lemmas.List.{length-append}
use Rattle.std.proofs.lemmas.Nat.Bits.{bit_at-lt}
use Rattle.std.proofs.lemmas.Option.{none-some, same_Some}
use Rattle.session_values.specs.Sums.{sum_below}
use Rattle.session_values.proofs.Sums.{sum_more}
use Rattle.turn_board.specs.Hands.{Once, in_hands}
use Rattle.turn_board.specs.Maps.{bits_of}
use Rattle.turn_board.proofs.Rows.{two}
use Rattle.turn_board.proofs.Several.{in-end, in-longer}
use Rattle.hall_rule.specs.declared.held.Held.{Held}
use Rattle.hall_rule.specs.Contents.{Content}
use Rattle.hall_rule.specs.Shards.{content_of}

-- ---- how many turns a set has
most_below : (n : ℕ) (f : ℕ → ℕ) → ((u : ℕ) → f u ≤ 1) → sum_below n f ≤ n
most_below zero f h = omega arith
most_below (suc n) f h = omega (arith, most_below n f h, h n)

bits_sum : (bits n : ℕ) → length (bits_of bits n) ≡ sum_below n (bit_at bits)
bits_sum bits zero = refl
bits_sum bits (suc n) =
    two (bit_at bits n) (λ b. length (cond (eqb b 1) (bits_of bits n ++ n ∷ []) (bits_of bits n)) ≡ sum_below n (bit_at bits) + b) (bit_at-lt bits n)
    (λ z. let e : length (bits_of bits n) ≡ sum_below n (bit_at bits) = bits_sum bits n in omega (arith, e))
    (λ z. let e : length (bits_of bits n) ≡ sum_below n (bit_at bits) = bits_sum bits n in omega (arith, e, length-append (bits_of bits n) (n ∷ [])))

module _ {S : Type 0} where
  -- a turn that stands nowhere isn't in hand
  pub none_in : (xs : List (ℕ × Held S)) (u : ℕ) → ((i : ℕ) (x : ℕ × Held S) → slice_get xs i ≡ Some x → x.0 ≢ u) → in_hands (content_of {S = S}) xs u ≡ None
  none_in [] u h = refl
  none_in (x ∷ xs) u h = ap (λ (b : Bool). cond b (Some (content_of x.1)) (in_hands (content_of {S = S}) xs u)) (ne_eqb x.0 u (h 0 x refl)) ∙ none_in xs u (λ i y e. h (suc i) y e)

  here_in : (x : ℕ × Held S) (xs : List (ℕ × Held S)) (u : ℕ) → x.0 ≡ u → in_hands (content_of {S = S}) (x ∷ xs) u ≡ Some (content_of x.1)
  here_in x xs u e = ap (λ (b : Bool). cond b (Some (content_of x.1)) (in_hands (content_of {S = S}) xs u)) (eq-eqb x.0 u e)

  else_in : (x : ℕ × Held S) (xs : List (ℕ × Held S)) (u : ℕ) → x.0 ≢ u → in_hands (content_of {S = S}) (x ∷ xs) u ≡ in_hands (content_of {S = S}) xs u
  else_in x xs u n = ap (λ (b : Bool). cond b (Some (content_of x.1)) (in_hands (content_of {S = S}) xs u)) (ne_eqb x.0 u n)

  -- one that stands somewhere is
  pub some_in : (xs : List (ℕ × Held S)) (i u : ℕ) (x : ℕ × Held S) → slice_get xs i ≡ Some x → x.0 ≡ u → in_hands (content_of {S = S}) xs u ≡ None → ⊥
  some_in [] i u x e is n = none-some x e
  some_in (y ∷ ys) zero u x e is n = none-some (content_of y.1) (sym n ∙ here_in y ys u (ap (λ (z : ℕ × Held S). z.0) (same_Some y x e) ∙ is))
  some_in (y ∷ ys) (suc i) u x e is n = go (eqb y.0 u) refl (λ z. some_in ys i u x e is (sym (else_in y ys u z) ∙ n))
    where
      go : (b : Bool) → eqb y.0 u ≡ b → (y.0 ≢ u → ⊥) → ⊥
      go true z later = none-some (content_of y.1) (sym n ∙ here_in y ys u (eqb-true y.0 u z))
      go false z later = later (eqb-false y.0 u z)

  -- its content is that of its value, where each turn stands once
  module _ (y : ℕ × Held S) (ys : List (ℕ × Held S)) (o : Once (content_of {S = S}) (y ∷ ys)) (i : ℕ) (x : ℕ × Held S) (e : slice_get ys i ≡ Some x) where
    apart : y.0 ≢ x.0
    apart h = some_in ys i x.0 x e refl (ap (in_hands (content_of {S = S}) ys) (sym h) ∙ o.1)

  pub at_in : (xs : List (ℕ × Held S)) → Once (content_of {S = S}) xs → (i : ℕ) (x : ℕ × Held S) → slice_get xs i ≡ Some x → in_hands (content_of {S = S}) xs x.0 ≡ Some (content_of x.1)
  at_in [] o i x e = absurd (none-some x e)
  at_in (y ∷ ys) o zero x e = let P : ℕ × Held S → Type 0 = λ z. in_hands (content_of {S = S}) (y ∷ ys) z.0 ≡ Some (content_of z.1) in subst P (same_Some y x e) (here_in y ys y.0 refl)
  at_in (y ∷ ys) o (suc i) x e = else_in y ys x.0 (apart y ys o i x e) ∙ at_in ys o.2 i x e

  -- ---- another value at a place
  pub in_set_same : (xs : List (ℕ × Held S)) → Once (content_of {S = S}) xs → (i : ℕ) (x : ℕ × Held S) (v : Held S) → slice_get xs i ≡ Some x → in_hands (content_of {S = S}) (set xs i (x.0, v)) x.0 ≡ Some (content_of v)
  in_set_same [] o i x v e = absurd (none-some x e)
  in_set_same (y ∷ ys) o zero x v e = here_in (x.0, v) ys x.0 refl
  in_set_same (y ∷ ys) o (suc i) x v e = else_in y (set ys i (x.0, v)) x.0 (apart y ys o i x e) ∙ in_set_same ys o.2 i x v e

  pub in_set_other : (xs : List (ℕ × Held S)) (i : ℕ) (x : ℕ × Held S) (v : Held S) → slice_get xs i ≡ Some x → (u : ℕ) → u ≢ x.0 → in_hands (content_of {S = S}) (set xs i (x.0, v)) u ≡ in_hands (content_of {S = S}) xs u
  in_set_other [] i x v e u n = absurd (none-some x e)
  in_set_other (y ∷ ys) zero x v e u n = else_in (x.0, v) ys u (λ h. n (sym h)) ∙ sym (else_in y ys u (λ h. n (sym h ∙ ap (λ (z : ℕ × Held S). z.0) (same_Some y x e))))
  in_set_other (y ∷ ys) (suc i) x v e u n = ap (λ (o : Option (Content S)). cond (eqb y.0 u) (Some (content_of y.1)) o) (in_set_other ys i x v e u n)

  pub once_set : (xs : List (ℕ × Held S)) → Once (content_of {S = S}) xs → (i : ℕ) (x : ℕ × Held S) (v : Held S) → slice_get xs i ≡ Some x → Once (content_of {S = S}) (set xs i (x.0, v))
  once_set [] o i x v e = absurd (none-some x e)
  once_set (y ∷ ys) o zero x v e =
      let P : ℕ → Type 0 = λ u. (0 < u) × (in_hands (content_of {S = S}) ys u ≡ None) × Once (content_of {S = S}) ys in
      subst P (ap (λ (z : ℕ × Held S). z.0) (same_Some y x e)) o
  once_set (y ∷ ys) o (suc i) x v e = (o.0, in_set_other ys i x v e y.0 (apart y ys o i x e) ∙ o.1, once_set ys o.2 i x v e)

  -- ---- more turns
  pub once_append : (xs ys : List (ℕ × Held S)) → Once (content_of {S = S}) xs → Once (content_of {S = S}) ys → ((u : ℕ) (c : Content S) → in_hands (content_of {S = S}) ys u ≡ Some c → in_hands (content_of {S = S}) xs u ≡ None) → Once (content_of {S = S}) (xs ++ ys)
  once_append [] ys o p h = p
  once_append (x ∷ xs) ys o p h = (o.0, in-end content_of xs ys x.0 o.1 ∙ free (in_hands (content_of {S = S}) ys x.0) refl, once_append xs ys o.2 p (λ u c e. later u (h u c e)))
    where
      free : (k : Option (Content S)) → in_hands (content_of {S = S}) ys x.0 ≡ k → in_hands (content_of {S = S}) ys x.0 ≡ None
      free None e = e
      free (Some c) e = absurd (none-some (content_of x.1) (sym (h x.0 c e) ∙ here_in x xs x.0 refl))

      later : (u : ℕ) → in_hands (content_of {S = S}) (x ∷ xs) u ≡ None → in_hands (content_of {S = S}) xs u ≡ None
      later u e = go (eqb x.0 u) refl
        where
          go : (b : Bool) → eqb x.0 u ≡ b → in_hands (content_of {S = S}) xs u ≡ None
          go true z = absurd (none-some (content_of x.1) (sym e ∙ here_in x xs u (eqb-true x.0 u z)))
          go false z = sym (else_in x xs u (eqb-false x.0 u z)) ∙ e

  -- ---- how many there are: each turn below a bound is in hand, counted by f, or neither
  few_pairs : (n : ℕ) (xs : List (ℕ × Held S)) (f : ℕ → ℕ) → Once (content_of {S = S}) xs → ((u : ℕ) → f u ≤ 1) → ((u : ℕ) (c : Content S) → in_hands (content_of {S = S}) xs u ≡ Some c → (u < n) × (f u ≡ 0)) → length xs + sum_below n f ≤ n
  few_pairs n [] f o one h = omega (arith, most_below n f one)
  few_pairs n (x ∷ xs) f o one h =
      let at : (x.0 < n) × (f x.0 ≡ 0) = h x.0 (content_of x.1) (here_in x xs x.0 refl) in
      omega (arith, few_pairs n xs (λ u. cond (eqb x.0 u) (1 + f u) (f u)) o.2 (λ u. most u (eqb x.0 u) refl) rest, sum_more n x.0 1 f at.0)
    where
      most : (u : ℕ) (b : Bool) → eqb x.0 u ≡ b → cond b (1 + f u) (f u) ≤ 1
      most u true e = let z : f u ≡ 0 = ap f (sym (eqb-true x.0 u e)) ∙ (h x.0 (content_of x.1) (here_in x xs x.0 refl)).1 in omega (arith, z)
      most u false e = one u

      rest : (u : ℕ) (c : Content S) → in_hands (content_of {S = S}) xs u ≡ Some c → (u < n) × (cond (eqb x.0 u) (1 + f u) (f u) ≡ 0)
      rest u c e =
          let n2 : x.0 ≢ u = λ z. none-some c (sym o.1 ∙ ap (in_hands (content_of {S = S}) xs) z ∙ e) in
          let k : (u < n) × (f u ≡ 0) = h u c (else_in x xs u n2 ∙ e) in
          (k.0, ap (λ (b : Bool). cond b (1 + f u) (f u)) (ne_eqb x.0 u n2) ∙ k.1)

  -- so there is room for all turns below n, where those of a set aren't in hand
  pub pairs_room : (n set : ℕ) (xs : List (ℕ × Held S)) → Once (content_of {S = S}) xs → ((u : ℕ) (c : Content S) → in_hands (content_of {S = S}) xs u ≡ Some c → u < n) → ((u : ℕ) → bit_at set u ≡ 1 → in_hands (content_of {S = S}) xs u ≡ None) → length xs + length (bits_of set n) ≤ n
  pairs_room n set xs o near none =
      omega (arith, bits_sum set n, few_pairs n xs (bit_at set) o (λ u. omega (arith, bit_at-lt set u)) (λ u c e. (near u c e, two (bit_at set u) (λ b. b ≡ 0) (bit_at-lt set u) (λ z. refl) (λ z. absurd (none-some c (sym (none u z) ∙ e))))))

  -- turn 0 isn't in hand
  pub zero_in : (xs : List (ℕ × Held S)) → Once (content_of {S = S}) xs → in_hands (content_of {S = S}) xs 0 ≡ None
  zero_in [] o = refl
  zero_in (x ∷ xs) o = else_in x xs 0 (λ e. omega (arith, o.0, e)) ∙ zero_in xs o.2

  -- turns that aren't among the new ones
  pub in_front : (xs ys : List (ℕ × Held S)) (u : ℕ) → in_hands (content_of {S = S}) ys u ≡ None → in_hands (content_of {S = S}) (xs ++ ys) u ≡ in_hands (content_of {S = S}) xs u
  in_front xs ys u e = go (in_hands (content_of {S = S}) xs u) refl
    where
      go : (k : Option (Content S)) → in_hands (content_of {S = S}) xs u ≡ k → in_hands (content_of {S = S}) (xs ++ ys) u ≡ in_hands (content_of {S = S}) xs u
      go None z = in-end content_of xs ys u z ∙ e ∙ sym z
      go (Some c) z = in-longer content_of xs ys u c z ∙ sym z
