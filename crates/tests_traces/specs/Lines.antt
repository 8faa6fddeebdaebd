-- The names of the test of lines. Only this crate's own functions cite it.
use Rattle.std.specs.Prelude.{ℕ, List, [], ◌∷◌, codes}

-- those of a table and of a symbol
abbrev pub two_names : List (List ℕ)
two_names = codes "m" ∷ codes "x" ∷ []
