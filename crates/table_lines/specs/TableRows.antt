-- The rows of a table part: the entries that they are, and the first fault among them.
use Rattle.std.specs.Prelude.{◌≡◌, ℕ, ℤ, ◌<◌, ◌≤◌, Bool, false, not, ◌&&◌, ◌==◌, nat_le}
use Rattle.std.specs.Prelude.{if◌then◌else◌, List, [], ◌∷◌, ◌++◌, length, slice_get, slice_index_or}
use Rattle.std.specs.Prelude.{Option, Some, None, MatchOption}
use Rattle.std.specs.List.{list_all, list_any, position_or_len, AllByRecursion}
use Rattle.std.specs.Option.{option_or}
use Rattle.std.specs.Ordering.{is_eq}
use Rattle.std.specs.Str.{bytes_eq}
use Rattle.session_values.specs.OpeningLimits.{max_table_lines}
use Rattle.session_values.specs.Opening.{Pair, entries_of}
use Rattle.session_values.specs.ReplyText.{IsPrintable}
use Rattle.session_values.specs.declared.kind.TableKind.{TableKind}
use Rattle.session_values.specs.declared.kind.TableKind.TheVariants.{Map, Set}
use Rattle.session_values.specs.declared.value.Value.{Value}
use Rattle.session_values.specs.declared.value.Value.TheVariants.{Nil}
use Rattle.syntax_trees.specs.declared.file.TableDecl.{TableDecl}
use Rattle.table_lines.specs.Written.{Written, NilWord, NumberWord, SymbolWord, text_at, written_cmp}
use Rattle.text_lines.specs.Rows.{Row, names_behind}
use Rattle.text_lines.specs.Text.{Text}
use Rattle.text_lines.specs.Values.{is_nil, is_symbol, is_value, number, values_of}
use Rattle.table_lines.specs.declared.refusal.TableRefusal.{TableRefusal}
use Rattle.table_lines.specs.declared.refusal.TableRefusal.TheVariants.{UnknownTable, Arity}
use Rattle.table_lines.specs.declared.refusal.TableRefusal.TheVariants.{BadWord, Twice}
use Rattle.table_lines.specs.declared.refusal.TableRefusal.TheVariants.{TooManyEntries}

-- ---- tables

-- each table's name is in the list
abbrev pub AreKnown : List Text → List TableDecl → Type 0
AreKnown names tables = AllByRecursion (λ (t : TableDecl). t.name < length names) tables

-- the number of the first table with this name, or how many there are where none has it
unfoldable pub table_of : List Text → List TableDecl → Text → ℕ
table_of names tables name =
    position_or_len (λ (t : TableDecl). bytes_eq (text_at names t.name) name) tables

-- what a search for the name answers
abbrev pub IsTable : List Text → List TableDecl → Text → Option ℕ → Type 0
IsTable names tables name o = MatchOption o (length tables ≤ table_of names tables name)
    (λ i. (i ≡ table_of names tables name) × (i < length tables))

-- how many words stand behind a table's name: a key, and of a map a value
abbrev pub arity : TableKind → ℕ
arity Map = 2
arity Set = 1

-- ---- keys

-- what a word says: a number by its value, a symbol by its text
abbrev pub as_number : Option ℤ → Option Written
as_number None = None
as_number (Some n) = Some (NumberWord n)

unfoldable pub word_says : Text → Option Written
word_says w = if is_symbol w then Some (SymbolWord w)
    else (if is_nil w then Some NilWord else as_number (number w))

-- whether two words say the same
abbrev pub says_same : Option Written → Option Written → Bool
says_same None o = false
says_same (Some x) None = false
says_same (Some x) (Some y) = is_eq (written_cmp x y)

-- the word of a row's key
abbrev pub key_word : Row → Text
key_word r = slice_index_or r.args 0 []

-- whether another row gives the same table the same key
abbrev pub gives_key : List Text → List TableDecl → Row → Row → Bool
gives_key names tables r b = table_of names tables b.name == table_of names tables r.name
    && says_same (word_says (key_word r)) (word_says (key_word b))

-- ---- the fault of a row, in the order in which faults are tried

-- its fault where its table is of this kind, if its words have one
abbrev pub word_fault : TableKind → ℕ → List Text → Option TableRefusal
word_fault kind line ws =
    if not (arity kind == length ws) then Some (Arity line)
    else (if not (list_all is_value ws) then Some (BadWord line) else None)

-- its fault where this is its table, if its words have one
abbrev pub decl_fault : Option TableDecl → ℕ → List Text → Option TableRefusal
decl_fault None line ws = Some (UnknownTable line)
decl_fault (Some t) line ws = word_fault t.kind line ws

-- its fault behind these rows, if it has one
unfoldable pub table_fault : List Text → List TableDecl → List Row → Row → Option TableRefusal
table_fault names tables before r =
    if nat_le max_table_lines (length before) then Some (TooManyEntries r.line)
    else option_or
    (decl_fault (slice_get tables (table_of names tables r.name)) r.line r.args)
    (if list_any (gives_key names tables r) before then Some (Twice r.line) else None)

-- the first fault of some rows behind these, if there is one
unfoldable pub first_table_fault : List Text → List TableDecl → List Row → List Row
    → Option TableRefusal
first_table_fault names tables before [] = None
first_table_fault names tables before (r ∷ rs) = option_or (table_fault names tables before r)
    (first_table_fault names tables (before ++ r ∷ []) rs)

-- ---- entries

-- a key with its value, which is nil where none is given
abbrev pub pair_of : List Value → Pair
pair_of [] = (Nil, Nil)
pair_of (key ∷ []) = (key, Nil)
pair_of (key ∷ value ∷ vs) = (key, value)

-- a row's entry, where symbols have their places in these names
abbrev pub pair_in : List Text → Row → Pair
pair_in names r = pair_of (values_of names r.args)

-- the entries of table i: tables go by the names before all rows, symbols by those behind them
unfoldable pub entries_for : List Text → List Text → List TableDecl → List Row → ℕ → List Pair
entries_for old new tables [] i = []
entries_for old new tables (r ∷ rs) i =
    if table_of old tables r.name == i then pair_in new r ∷ entries_for old new tables rs i
    else entries_for old new tables rs i

-- no row has a fault, and these are the entries of each table, with the names behind the rows
pub record AreTables (old new : List Text) (tables : List TableDecl) (rs : List Row)
    (found : List (List Pair)) : Type 0 where
  pub fine : first_table_fault old tables [] rs ≡ None
  pub count : length found ≡ length tables
  pub entries : (i : ℕ) → i < length tables → entries_of found i ≡ entries_for old new tables rs i
  pub names : new ≡ names_behind old rs

-- each symbol among the entries has a text, of at most 64 bytes
abbrev pub ArePrintable : List Text → List (List Pair) → Type 0
ArePrintable names found =
    AllByRecursion (AllByRecursion (λ e. IsPrintable names e.0 × IsPrintable names e.1)) found
