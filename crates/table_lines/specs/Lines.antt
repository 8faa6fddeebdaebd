-- The lines of entries as they stand. Only this crate's own functions cite it.
use Rattle.std.specs.Prelude.{ℕ, List, [], ◌∷◌, ◌++◌, codes}
use Rattle.session_values.specs.Opening.{Pair}
use Rattle.session_values.specs.declared.kind.TableKind.{TableKind}
use Rattle.syntax_trees.specs.declared.file.TableDecl.{TableDecl}
use Rattle.table_lines.specs.Dumped.{part_text}
use Rattle.table_lines.specs.TableText.{table_line, told}
use Rattle.table_lines.specs.Written.{text_at, written}

-- the line of an entry of a table of this kind, by the place of the table's name
abbrev pub line_of : List (List ℕ) → ℕ → TableKind → Pair → List ℕ
line_of names table kind e =
    table_line (text_at names table) (written names e.0) (told kind (written names e.1))

-- the lines of some entries
unfoldable pub lines_of : List (List ℕ) → ℕ → TableKind → List Pair → List ℕ
lines_of names table kind [] = []
lines_of names table kind (e ∷ es) = line_of names table kind e ++ lines_of names table kind es

-- the parts of tables of these declarations, by table; where no list is left, a table is empty
unfoldable pub parts_text : List (List ℕ) → List TableDecl → List (List Pair) → List ℕ
parts_text names [] lists = []
parts_text names (t ∷ ts) [] = part_text names t.name t.kind [] ++ parts_text names ts []
parts_text names (t ∷ ts) (es ∷ lists) =
    part_text names t.name t.kind es ++ parts_text names ts lists

-- the line with which the text begins
abbrev pub head_text : List ℕ
head_text = codes "%% tables" ++ 10 ∷ []
