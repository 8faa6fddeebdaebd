-- The only caller of a hall.
use Rattle.std.proofs.Common.{◌≡◌, ℕ, zero, suc, List, [], ◌∷◌, ◌++◌, length, drop, Some, refl, sym, ◌∙◌, ap, subst, arith}
use Rattle.std.proofs.lemmas.Option.{same_Some, none-some}
use Rattle.std.specs.Prelude.{slice_get}
use Rattle.session_journal.specs.Script.{Meaning}
use Rattle.session_hall.specs.declared.caller.Caller.{Caller}
use Rattle.session_hall.specs.declared.hall.Hall.{Hall}
use Rattle.session_hall.specs.declared.stage.Stage.{Stage}
use Rattle.session_hall.specs.declared.stage.Stage.TheVariants.{Idle}
use Rattle.session_hall.specs.Closings.{Leaves}
use Rattle.session_hall.specs.Stages.{IsBetween}

pub between : (st : Stage) → st ≡ Idle → IsBetween st
between st e = let P : Stage → Type 0 = λ s. IsBetween s in subst P (sym e) tt

-- it was moved behind the others, of which there are none
pub one_leaves : {S : Type 0} (meaning : S → Meaning) (h : Hall S) (xs ys list : List (Caller S)) (a : Caller S) → length xs ≡ 1 → ys ≡ drop 1 xs → list ≡ ys ++ a ∷ [] → Leaves meaning h 0 a → (i : ℕ) (d : Caller S) → slice_get list i ≡ Some d → Leaves meaning h i d
one_leaves {S} meaning h xs ys list a one r is leaves i d e = go ys (ap length r ∙ none xs one) i (ap (λ (l : List (Caller S)). slice_get l i) (sym is) ∙ e)
  where
    none : (ws : List (Caller S)) → length ws ≡ 1 → length (drop 1 ws) ≡ 0
    none [] l = refl
    none (w ∷ ws) l = omega (arith, l)

    go : (ws : List (Caller S)) → length ws ≡ 0 → (i : ℕ) → slice_get (ws ++ a ∷ []) i ≡ Some d → Leaves meaning h i d
    go [] l zero e = let P : Caller S → Type 0 = λ z. Leaves meaning h 0 z in subst P (same_Some a d e) leaves
    go [] l (suc i) e = absurd (none-some d e)
    go (w ∷ ws) l i e = absurd (omega (arith, l))
