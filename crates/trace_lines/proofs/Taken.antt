-- Words that are taken from a line, one after another.
use Rattle.std.proofs.Common.{◌≡◌, List, [], ◌∷◌, ◌++◌, ap}
use Rattle.std.specs.List.{AllByRecursion}
use Rattle.text_lines.specs.Text.{Text}
use Rattle.trace_lines.specs.declared.words.Word.{Word}
use Rattle.trace_lines.specs.Placing.{texts}

-- the word that was taken stands behind those before it, and before the rest
pub taken : (ws : List Word) (w : Word) (t : Text) (rest : List Text) → w.text.now ≡ t → texts (ws ++ w ∷ []) ++ rest ≡ texts ws ++ t ∷ rest
taken [] w t rest e = ap (λ (x : Text). x ∷ rest) e
taken (v ∷ ws) w t rest e = ap (λ (xs : List Text). v.text.now ∷ xs) (taken ws w t rest e)

pub all_and : (P : Word → Type 0) (ws : List Word) (w : Word) → AllByRecursion P ws → P w → AllByRecursion P (ws ++ w ∷ [])
all_and P [] w all p = (p, tt)
all_and P (v ∷ ws) w all p = (all.0, all_and P ws w all.1 p)
