-- The lines with words, and the names that their words place.
use Rattle.std.specs.Prelude.{ℕ, ◌+◌, List, [], ◌∷◌}
use Rattle.text_lines.specs.Text.{Text, words}
use Rattle.text_lines.specs.Values.{placed_all}

-- a line with words: its number, its first word, and the others
pub record Row : Type 0 where
  pub line : ℕ
  pub name : Text
  pub args : List Text

abbrev pub row_of : ℕ → Text → List Text → Row
row_of line name args = record { line = line; name = name; args = args }

-- the row of a line with these words, if there is one, before some rows
abbrev pub row_before : ℕ → List Text → List Row → List Row
row_before n [] rs = rs
row_before n (w ∷ ws) rs = row_of n w ws ∷ rs

-- the lines with words, where the first of these lines has this number
unfoldable pub rows : ℕ → List Text → List Row
rows n [] = []
rows n (l ∷ ls) = row_before n (words l) (rows (n + 1) ls)

-- the names behind all rows
unfoldable pub names_behind : List Text → List Row → List Text
names_behind names [] = names
names_behind names (r ∷ rs) = names_behind (placed_all names r.args) rs
