-- What the first fault of table lines comes to on a whole list of them, and lines without a fault.
use Rattle.std.specs.Prelude.{◌≡◌, ℕ, ◌≤◌, true, List, [], ◌∷◌, ◌++◌, length, slice_get, Some, None}
use Rattle.std.specs.List.{list_all, AllByRecursion, Contains}
use Rattle.session_values.specs.OpeningLimits.{max_table_lines}
use Rattle.syntax_trees.specs.declared.file.TableDecl.{TableDecl}
use Rattle.text_lines.specs.Rows.{Row}
use Rattle.text_lines.specs.Text.{Text}
use Rattle.text_lines.specs.Values.{is_value}
use Rattle.table_lines.specs.TableRows.{arity, first_table_fault, key_word, table_of, word_says}

-- the row names a table, behind that it has a word for a key and, of a map, one for a value, and
-- each of these is a value
pub record IsWellFormed (names : List Text) (tables : List TableDecl) (r : Row) : Type 0 where
  pub decl : TableDecl
  pub table : slice_get tables (table_of names tables r.name) ≡ Some decl
  pub words : arity decl.kind ≡ length r.args
  pub values : list_all is_value r.args ≡ true

-- both rows give one table the same key: the same number, symbol, or nil
pub record GiveOneKey (names : List Text) (tables : List TableDecl) (r b : Row) : Type 0 where
  pub table : table_of names tables b.name ≡ table_of names tables r.name
  pub key : word_says (key_word b) ≡ word_says (key_word r)

-- some rows without a fault, a row of this line behind them, and the others
pub record BeforeFault (names : List Text) (tables : List TableDecl) (rs : List Row)
    (line : ℕ) : Type 0 where
  pub front : List Row
  pub row : Row
  pub back : List Row
  pub is : rs ≡ front ++ row ∷ back
  pub line_is : row.line ≡ line
  pub fine : first_table_fault names tables [] front ≡ None

-- one of the rows before it gives the same table the same key
pub record IsGivenTwice (names : List Text) (tables : List TableDecl) (rs : List Row)
    (line : ℕ) : Type 0 where
  pub at : BeforeFault names tables rs line
  pub formed : IsWellFormed names tables at.row
  pub earlier : Row
  pub among : Contains at.front earlier
  pub same : GiveOneKey names tables at.row earlier

-- as many entries as there may be stand before the row
pub record IsOneTooMany (names : List Text) (tables : List TableDecl) (rs : List Row)
    (line : ℕ) : Type 0 where
  pub at : BeforeFault names tables rs line
  pub count : length at.front ≡ max_table_lines

-- the rows are as few as may be, each is well-formed, and no two give one table the same key
pub record AreWellFormed (names : List Text) (tables : List TableDecl)
    (rs : List Row) : Type 0 where
  pub few : length rs ≤ max_table_lines
  pub each : AllByRecursion (IsWellFormed names tables) rs
  pub apart : (front : List Row) (row : Row) (back : List Row) (earlier : Row)
      → rs ≡ front ++ row ∷ back → Contains front earlier
      → GiveOneKey names tables row earlier → ⊥
