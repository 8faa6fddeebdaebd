-- Words behind words, and the values of a reply.
use Rattle.std.proofs.Common.{◌≡◌, ℕ, zero, suc, ◌<◌, List, [], ◌∷◌, ◌++◌, refl, sym, ap, ◌∙◌, arith, append_assoc, take}
use Rattle.std.specs.List.{AllByRecursion}
use Rattle.session_values.specs.declared.value.Value.{Value}
use Rattle.text_lines.specs.Words.{after_spaces}

pub joined : (ws vs : List (List ℕ)) → after_spaces (ws ++ vs) ≡ after_spaces ws ++ after_spaces vs
joined [] vs = refl
joined (w ∷ ws) vs = ap (λ (t : List ℕ). 32 ∷ w ++ t) (joined ws vs) ∙ ap (λ (t : List ℕ). 32 ∷ t) (sym (append_assoc w (after_spaces ws) (after_spaces vs)))

module _ (P : Value → Type 0) (a b c d : Value) where
  pub second : (n : ℕ) → 1 < n → AllByRecursion P (take n (a ∷ b ∷ c ∷ d ∷ [])) → P b
  second zero l h = absurd (omega (arith, l))
  second (suc zero) l h = absurd (omega (arith, l))
  second (suc (suc n)) l h = h.1.0

  pub third : (n : ℕ) → 2 < n → AllByRecursion P (take n (a ∷ b ∷ c ∷ d ∷ [])) → P c
  third zero l h = absurd (omega (arith, l))
  third (suc zero) l h = absurd (omega (arith, l))
  third (suc (suc zero)) l h = absurd (omega (arith, l))
  third (suc (suc (suc n))) l h = h.1.1.0
