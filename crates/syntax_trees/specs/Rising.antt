-- The places of a file, which rise in the order of its text.
use Rattle.std.specs.Prelude.{ℕ, ◌<◌, List, [], ◌∷◌, ◌++◌, map}
use Rattle.std.specs.List.{AllByRecursion, flat_map}
use Rattle.syntax_trees.specs.declared.file.File.{File}
use Rattle.syntax_trees.specs.declared.file.Handler.{Handler}
use Rattle.syntax_trees.specs.Marks.{Mark, Declared, mark_at, handler_marks, table_marks}

-- all marks of a file, in the order of its text
abbrev pub file_marks : File → List Mark
file_marks f = table_marks f.tables ++ flat_map
    (λ (h : Handler). Declared h.name h.at ∷ handler_marks h) f.handlers

-- each number is below all behind it
abbrev pub AreRising : List ℕ → Type 0
AreRising [] = Unit {0}
AreRising (n ∷ ns) = AllByRecursion (λ (m : ℕ). n < m) ns × AreRising ns

-- the byte place of each mark of a file is below those of all marks behind it
abbrev pub PlacesRise : File → Type 0
PlacesRise f = AreRising (map mark_at (file_marks f))
