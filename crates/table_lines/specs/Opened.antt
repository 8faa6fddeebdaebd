-- The entries of all tables of a table part, as one list.
use Rattle.std.specs.Prelude.{ℕ, zero, suc, ◌+◌, List, [], ◌∷◌, length}
use Rattle.session_values.specs.Opening.{Pair}
use Rattle.syntax_trees.specs.declared.file.TableDecl.{TableDecl}
use Rattle.text_lines.specs.Rows.{Row}
use Rattle.text_lines.specs.Text.{Text}
use Rattle.table_lines.specs.TableRows.{entries_for}

-- the entries of n tables, from table i on
abbrev pub entries_from : List Text → List Text → List TableDecl → List Row → ℕ → ℕ
    → List (List Pair)
entries_from old new tables rs i zero = []
entries_from old new tables rs i (suc n) =
    entries_for old new tables rs i ∷ entries_from old new tables rs (i + 1) n

-- the entries of each table: tables go by the names before all rows, symbols by those behind them
abbrev pub opened_by : List Text → List Text → List TableDecl → List Row → List (List Pair)
opened_by old new tables rs = entries_from old new tables rs 0 (length tables)
