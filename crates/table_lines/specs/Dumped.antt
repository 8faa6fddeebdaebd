-- Entries of a table that are written, and their text.
use Rattle.std.specs.Prelude.{ℕ, ◌≤◌, List, [], ◌∷◌, length, map as map_list}
use Rattle.std.specs.List.{AllByRecursion}
use Rattle.std.specs.List.Sorted.{IsSortedBy}
use Rattle.std.specs.Ordering.{is_lt}
use Rattle.session_values.specs.Limits.{max_tables}
use Rattle.session_values.specs.Opening.{Pair, AreApart, container_of, tables_of}
use Rattle.session_values.specs.Names.{IsNamed}
use Rattle.session_values.specs.ReplyText.{IsPrintable}
use Rattle.session_values.specs.declared.kind.TableKind.{TableKind}
use Rattle.session_values.specs.declared.kind.TableKind.TheVariants.{Map, Set}
use Rattle.syntax_trees.specs.declared.file.TableDecl.{TableDecl}
use Rattle.table_lines.specs.TableText.{entries_in, entries_text, table_text, written_table}
use Rattle.table_lines.specs.Written.{text_at, written, written_cmp}

-- the keys stand in the order of what is written
abbrev pub AreInOrder : List (List ℕ) → List Pair → Type 0
AreInOrder names es =
    IsSortedBy (λ (a b : Pair). is_lt (written_cmp (written names a.0) (written names b.0))) es

-- a line has room for what it tells of an entry
abbrev pub IsPrintableEntry : List (List ℕ) → TableKind → Pair → Type 0
IsPrintableEntry names Map e = IsPrintable names e.0 × IsPrintable names e.1
IsPrintableEntry names Set e = IsPrintable names e.0

-- the entries of a table of this kind can be written: each key once, and a line has room for each
pub record CanDump (names : List (List ℕ)) (kind : TableKind) (es : List Pair) : Type 0 where
  pub apart : AreApart es
  pub printable : AllByRecursion (IsPrintableEntry names kind) es

-- the part of the text of tables that is a table's: of this place of its name, and this kind, with
-- these entries
abbrev pub part_text : List (List ℕ) → ℕ → TableKind → List Pair → List ℕ
part_text names table kind es =
    entries_text (entries_in (text_at names table) (written_table names (container_of kind es)))

-- ---- all tables

-- the text of tables of these declarations, with these entries
abbrev pub dump_text : List (List ℕ) → List TableDecl → List (List Pair) → List ℕ
dump_text names decls lists =
    table_text (map_list (λ (t : TableDecl). text_at names t.name) decls)
    (map_list (written_table names)
    (tables_of (map_list (λ (t : TableDecl). t.kind) decls) lists))

-- for each declaration there is a list of entries that can be written
abbrev pub CanDumpEach : List (List ℕ) → List TableDecl → List (List Pair) → Type 0
CanDumpEach names [] [] = Unit {0}
CanDumpEach names [] (es ∷ lists) = ⊥
CanDumpEach names (t ∷ decls) [] = ⊥
CanDumpEach names (t ∷ decls) (es ∷ lists) =
    CanDump names t.kind es × CanDumpEach names decls lists

-- the tables of these declarations can be written: few of them, each with a name that a line has
-- room for, and with entries that can be written
pub record CanDumpAll (names : List (List ℕ)) (decls : List TableDecl)
    (lists : List (List Pair)) : Type 0 where
  pub few : length decls ≤ max_tables
  pub named : AllByRecursion (λ (t : TableDecl). IsNamed names t.name) decls
  pub entries : CanDumpEach names decls lists

-- each list has at most so many entries
abbrev pub HaveRoom : ℕ → List (List Pair) → Type 0
HaveRoom room lists = AllByRecursion (λ (es : List Pair). length es ≤ room) lists
