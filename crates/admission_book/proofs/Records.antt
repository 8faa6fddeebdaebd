-- The records of a book after one of them is replaced, and narrower foresights.
use Rattle.std.proofs.Common.{◌≡◌, ℕ, ◌<◌, ◌≤◌, ◌≢◌, List, [], ◌∷◌, length, ◌⊎◌, inl, inr, Option, Some, None, true, false, eqb, get_or, refl, sym, ◌∙◌, subst, arith}
use Rattle.std.proofs.Math.ListN.{set}
use Rattle.std.proofs.lemmas.List.{get_or-set_same, get_or-set_other, get_or_past, length-set}
use Rattle.std.proofs.lemmas.Bool.{cases_lt, eqb-true, eqb-false}
use Rattle.std.specs.List.{AllByRecursion}
use Rattle.session_values.specs.declared.op.Op.{Op}
use Rattle.symbolic_ops.specs.declared.symbol.Symbol.{Symbol}
use Rattle.session_values.specs.Commuting.{Commute}
use Rattle.symbolic_ops.proofs.Above.{covered_matches}
use Rattle.symbolic_ops.specs.Matching.{Covered, Matches}
use Rattle.symbolic_ops.specs.Commuting.{CommutesWith, CommutesWithAll}

-- a place that has something is within the list
pub within : {X : Type 0} (l : List (Option X)) (c : ℕ) (x : X) → get_or l c None ≡ Some x → c < length l
within {X} l c x h = by_cases (cases_lt c (length l))
  where
    by_cases : (c < length l) ⊎ (length l ≤ c) → c < length l
    by_cases (inl k) = k
    by_cases (inr k) = let e : ◌≡◌ {A = Option X} None (Some x) = sym (get_or_past l c None k) ∙ h in cc

-- what stands at a place after place c is set: at c what was set, and elsewhere what was there
pub at_set : {X : Type 0} (l : List (Option X)) (c d : ℕ) (x : Option X) (s : X) → get_or (set l c x) d None ≡ Some s → ((d ≡ c) × (x ≡ Some s)) ⊎ ((d ≢ c) × (get_or l d None ≡ Some s))
at_set {X} l c d x s h =
    elim (eqb d c) as (λ b. eqb d c ≡ b → ((d ≡ c) × (x ≡ Some s)) ⊎ ((d ≢ c) × (get_or l d None ≡ Some s))) [
      | true ↦ λ e. let is : d ≡ c = eqb-true d c e in inl (is, here is)
      | false ↦ λ e. let apart : d ≢ c = eqb-false d c e in inr (apart, sym (get_or-set_other l c d x None apart) ∙ h)
    ] refl
  where
    here : d ≡ c → x ≡ Some s
    here is =
        let k : d < length (set l c x) = within (set l c x) d s h in
        let k2 : c < length l = omega (arith, length-set l c x) in
        let P : ℕ → Type 0 = λ j. get_or (set l c x) j None ≡ Some s in
        sym (get_or-set_same l c x None k2) ∙ subst P is h

pub set_other : {X : Type 0} (l : List (Option X)) (c d : ℕ) (x : Option X) (s : X) → d ≢ c → get_or l d None ≡ Some s → get_or (set l c x) d None ≡ Some s
set_other l c d x s apart h = get_or-set_other l c d x None apart ∙ h

-- ---- narrower foresights stand for fewer operations
pub CommutesWithAll-narrow : (a : Op) (g f : List Symbol) → Covered g f → CommutesWithAll a f → CommutesWithAll a g
CommutesWithAll-narrow a g f c h = record { each = λ b k. h.each b (covered_matches g f b c k) }

pub CommutesWithAll-each : (a : Op) (f : List Symbol) → AllByRecursion (λ s. CommutesWith a s) f → CommutesWithAll a f
CommutesWithAll-each a f h = record { each = λ b k. go f h b k }
  where
    go : (f : List Symbol) → AllByRecursion (λ s. CommutesWith a s) f → (b : Op) → Matches f b → Commute a b
    go [] h b k = absurd k
    go (s ∷ f) h b (inl k) = h.0.each b k
    go (s ∷ f) h b (inr k) = go f h.1 b k
