-- A way, ticket by ticket.
use Rattle.std.proofs.Common.{◌≡◌, ℕ, suc, ◌+◌, ◌-◌, ◌<◌, ◌≤◌, List, [], ◌∷◌, ◌++◌, append_assoc, sym, ap, ◌∙◌, arith}
use Rattle.waiting_pairs.specs.declared.links.Step.{Step}
use Rattle.waiting_pairs.specs.Steps.{rest_of, step_at, way}

module _ (table : List Step) (n : ℕ) where
  pub way_begun : (t : ℕ) (out : List ℕ) → out ≡ [] → out ++ t ∷ rest_of table (n - 0) t ≡ t ∷ rest_of table n t
  way_begun t out is =
      let whole : n - 0 ≡ n = omega arith in
      ap (λ (z : List ℕ). z ++ t ∷ rest_of table (n - 0) t) is ∙ ap (λ (k : ℕ). t ∷ rest_of table k t) whole

  pub way_more : (i at : ℕ) (old new : List ℕ) (next : ℕ) (all : List ℕ) → i < n → new ≡ old ++ at ∷ [] → next ≡ (step_at table at).next
      → old ++ at ∷ rest_of table (n - i) at ≡ all → new ++ next ∷ rest_of table (n - (i + 1)) next ≡ all
  way_more i at old new next all lt pushed is so_far =
      let less : n - i ≡ suc (n - (i + 1)) = omega (arith, lt) in
      ap (λ (z : List ℕ). z ++ next ∷ rest_of table (n - (i + 1)) next) pushed
      ∙ append_assoc old (at ∷ []) (next ∷ rest_of table (n - (i + 1)) next)
      ∙ ap (λ (z : ℕ). old ++ at ∷ (z ∷ rest_of table (n - (i + 1)) z)) is
      ∙ ap (λ (k : ℕ). old ++ at ∷ rest_of table k at) (sym less)
      ∙ so_far

  pub way_ended : (i at t : ℕ) (old new : List ℕ) → n ≤ i → new ≡ old ++ at ∷ [] → old ++ at ∷ rest_of table (n - i) at ≡ t ∷ rest_of table n t → n ≡ (step_at table t).count → new ≡ way table t
  way_ended i at t old new le pushed so_far is =
      let gone : n - i ≡ 0 = omega (arith, le) in
      pushed ∙ ap (λ (k : ℕ). old ++ at ∷ rest_of table k at) (sym gone) ∙ so_far ∙ ap (λ (k : ℕ). t ∷ rest_of table k t) is
