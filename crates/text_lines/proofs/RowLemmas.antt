-- The rows of some lines, and the names behind them.
use Rattle.std.proofs.Common.{◌≡◌, ℕ, ◌+◌, List, [], ◌∷◌, refl, sym, ap, ◌∙◌}
use Rattle.session_values.specs.Names.{Begins}
use Rattle.session_values.proofs.Named.{begins_same, begins_then}
use Rattle.text_lines.specs.Rows.{Row, row_of, row_before, rows, names_behind}
use Rattle.text_lines.specs.Text.{Text, words}
use Rattle.text_lines.specs.Values.{placed_all}
use Rattle.text_lines.proofs.ValueLemmas.{placed_all_begins}

-- ---- rows of lines

pub rows_nil : (n : ℕ) → rows n [] ≡ []
unfolding rows
rows_nil n = refl

pub rows_skip : (n : ℕ) (l : Text) (ls : List Text) → words l ≡ [] → rows n (l ∷ ls) ≡ rows (n + 1) ls
unfolding rows
rows_skip n l ls e = ap (λ ws. row_before n ws (rows (n + 1) ls)) e

pub rows_more : (n : ℕ) (l : Text) (ls : List Text) (w : Text) (ws : List Text) → words l ≡ w ∷ ws → rows n (l ∷ ls) ≡ row_of n w ws ∷ rows (n + 1) ls
unfolding rows
rows_more n l ls w ws e = ap (λ ws. row_before n ws (rows (n + 1) ls)) e

pub rows_step : (n m k : ℕ) (ls0 : List Text) (l : Text) (ls : List Text) (w : Text) (ws : List Text) → ls0 ≡ l ∷ ls → m ≡ n → k ≡ n + 1 → words l ≡ w ∷ ws → rows n ls0 ≡ row_of m w ws ∷ rows k ls
rows_step n m k ls0 l ls w ws is same next e =
    ap (rows n) is ∙ rows_more n l ls w ws e ∙ ap (λ m. row_of m w ws ∷ rows (n + 1) ls) (sym same) ∙ ap (λ k. row_of m w ws ∷ rows k ls) (sym next)

pub rows_pass : (n k : ℕ) (ls0 : List Text) (l : Text) (ls : List Text) → ls0 ≡ l ∷ ls → k ≡ n + 1 → words l ≡ [] → rows n ls0 ≡ rows k ls
rows_pass n k ls0 l ls is next e = ap (rows n) is ∙ rows_skip n l ls e ∙ ap (λ k. rows k ls) (sym next)

-- ---- the names behind rows

pub behind_nil : (names : List Text) → names_behind names [] ≡ names
unfolding names_behind
behind_nil names = refl

pub behind_step : (names : List Text) (r : Row) (rs : List Row) → names_behind names (r ∷ rs) ≡ names_behind (placed_all names r.args) rs
unfolding names_behind
behind_step names r rs = refl

pub behind_begins : (names : List Text) (rs : List Row) → Begins names (names_behind names rs)
unfolding names_behind
behind_begins names [] = begins_same names
behind_begins names (r ∷ rs) = begins_then _ _ _ (placed_all_begins names r.args) (behind_begins (placed_all names r.args) rs)
