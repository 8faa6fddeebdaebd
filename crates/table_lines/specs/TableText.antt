-- The text of tables: the line `%% tables`, then a line for each entry, by table, in the order of
-- what is written.
use Rattle.std.specs.Prelude.{ℕ, List, [], ◌∷◌, ◌++◌, Option, Some, None, codes, map as map_list}
use Rattle.std.specs.FinMap as map
use Rattle.std.specs.FinSet as set
use Rattle.std.specs.List.{concat}
use Rattle.session_values.specs.declared.kind.TableKind.{TableKind}
use Rattle.session_values.specs.declared.kind.TableKind.TheVariants.{Map, Set}
use Rattle.session_values.specs.declared.value.Value.{Value}
use Rattle.session_values.specs.Tables.{Container, Bindings, Members}
use Rattle.table_lines.specs.Written.{Written, word, written, written_cmp}

-- ---- lines

-- what a line tells of an entry's value: of a member of a set nothing
abbrev pub told : TableKind → Written → Option Written
told Map w = Some w
told Set w = None

-- a space and the value's word, where it is told
abbrev pub told_text : Option Written → List ℕ
told_text None = []
told_text (Some w) = 32 ∷ word w

-- an entry's line: the table's name, the key, the value where it is told, and a line feed
abbrev pub table_line : List ℕ → Written → Option Written → List ℕ
table_line name key value = (name ++ 32 ∷ word key ++ told_text value) ++ 10 ∷ []

-- an entry as it is written: the table's name, the key, and the value where it is told
pub record Entry : Type 0 where
  pub name : List ℕ
  pub key : Written
  pub value : Option Written

abbrev pub entry_of : List ℕ → Written → Option Written → Entry
entry_of name key value = record { name = name; key = key; value = value }

-- its line
abbrev pub entry_line : Entry → List ℕ
entry_line e = table_line e.name e.key e.value

-- what its line says behind the name
abbrev pub values_told : Written → Option Written → List Written
values_told key None = key ∷ []
values_told key (Some value) = key ∷ value ∷ []

abbrev pub entry_values : Entry → List Written
entry_values e = values_told e.key e.value

-- and the words of that
abbrev pub entry_words : Entry → List (List ℕ)
entry_words e = map_list word (entry_values e)

-- the lines of some entries
abbrev pub entries_text : List Entry → List ℕ
entries_text es = concat (map_list entry_line es)

-- ---- tables

-- a table as it is written: a finite map or a finite set, in the order of what is written
pub data WrittenTable : Type 0 where
  WrittenMap : map.FinMap written_cmp Written → WrittenTable
  WrittenSet : set.FinSet written_cmp → WrittenTable

-- a key alone, as a set keeps it
abbrev pub member : Written → Written × Unit {0}
member k = (k, tt)

-- what a table is written as, with the list of names
abbrev pub written_table : List (List ℕ) → Container → WrittenTable
written_table names (Bindings m) = WrittenMap (map.from_entries
    (map_list (λ (e : Value × Value). (written names e.0, written names e.1)) (map.entries m)))
written_table names (Members s) = WrittenSet (map.from_entries
    (map_list (λ (k : Value). member (written names k)) (set.items s)))

-- the entries of a table with this name, in their order
abbrev pub entries_in : List ℕ → WrittenTable → List Entry
entries_in name (WrittenMap m) =
    map_list (λ (e : Written × Written). entry_of name e.0 (Some e.1)) (map.entries m)
entries_in name (WrittenSet s) = map_list (λ (k : Written). entry_of name k None) (map.keys s)

-- the entries of tables with these names, by table
abbrev pub all_entries : List (List ℕ) → List WrittenTable → List Entry
all_entries [] tables = []
all_entries (name ∷ names) [] = []
all_entries (name ∷ names) (table ∷ tables) = entries_in name table ++ all_entries names tables

-- the text of tables with these names
abbrev pub table_text : List (List ℕ) → List WrittenTable → List ℕ
table_text names tables = codes "%% tables" ++ 10 ∷ entries_text (all_entries names tables)
