-- The text of tables as table lines.
use Rattle.std.specs.Prelude.{◌≡◌, ℕ, ◌≤◌, List, length, map, slice_get, Some}
use Rattle.session_values.specs.OpeningLimits.{max_table_lines}
use Rattle.session_values.specs.Opening.{Pair}
use Rattle.session_values.specs.Names.{AreDistinct}
use Rattle.session_values.specs.declared.kind.TableKind.{TableKind}
use Rattle.session_values.specs.declared.kind.TableKind.TheVariants.{Map, Set}
use Rattle.syntax_trees.specs.declared.file.TableDecl.{TableDecl}
use Rattle.table_lines.specs.Reading.{AreReadable, rows_from}
use Rattle.table_lines.specs.TableText.{WrittenTable, WrittenMap, WrittenSet, all_entries}
use Rattle.table_lines.specs.Written.{text_at}
use Rattle.text_lines.specs.Rows.{Row}
use Rattle.text_lines.specs.Text.{Text}
use Rattle.table_lines.specs.TableRows.{AreTables, table_of}

-- the names of the tables
abbrev pub texts_of : List Text → List TableDecl → List Text
texts_of names decls = map (λ (d : TableDecl). text_at names d.name) decls

-- the kind of a table that is written
abbrev pub written_kind : WrittenTable → TableKind
written_kind (WrittenMap m) = Map
written_kind (WrittenSet s) = Set

-- the rows of the lines of tables, of which the first has this number
abbrev pub written_rows : List Text → List TableDecl → ℕ → List WrittenTable → List Row
written_rows names decls n tables = rows_from n (all_entries (texts_of names decls) tables)

-- lines of tables that were read: no two tables have one name, the values are ones that words say,
-- and these are the entries that were found, with the names behind them
pub record AreReadBack (old new : List Text) (decls : List TableDecl) (n : ℕ)
    (tables : List WrittenTable) (found : List (List Pair)) : Type 0 where
  pub differ : (i : ℕ) (t : Text) → slice_get (texts_of old decls) i ≡ Some t
      → table_of old decls t ≡ i
  pub readable : AreReadable (all_entries (texts_of old decls) tables)
  pub distinct : AreDistinct new
  pub count : length tables ≡ length decls
  pub read : AreTables old new decls (written_rows old decls n tables) found

-- tables that may be written as the table part of these: no two tables have one name, kinds are
-- those that are declared, the values are ones that words say, and entries are few
pub record AreWritable (old : List Text) (decls : List TableDecl)
    (tables : List WrittenTable) : Type 0 where
  pub differ : (i : ℕ) (t : Text) → slice_get (texts_of old decls) i ≡ Some t
      → table_of old decls t ≡ i
  pub kinds : map written_kind tables ≡ map (λ (d : TableDecl). d.kind) decls
  pub readable : AreReadable (all_entries (texts_of old decls) tables)
  pub few : length (all_entries (texts_of old decls) tables) ≤ max_table_lines
