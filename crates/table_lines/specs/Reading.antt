-- When what is written can be read back, and as what it is read.
use Rattle.std.specs.Prelude.{◌≡◌, ℕ, ◌+◌, List, [], ◌∷◌, true, Option}
use Rattle.std.specs.List.{AllByRecursion}
use Rattle.std.specs.Option.{option_map}
use Rattle.session_values.specs.Values.{IsValue}
use Rattle.session_values.specs.declared.value.Value.TheVariants.{Num}
use Rattle.text_lines.specs.Rows.{Row, row_of}
use Rattle.text_lines.specs.Values.{is_symbol, value_of}
use Rattle.text_lines.specs.Words.{IsWord}
use Rattle.table_lines.specs.TableText.{Entry, entry_words, entry_values}
use Rattle.table_lines.specs.Written.{Written, NilWord, NumberWord, SymbolWord, written}

-- a value that a word says: a number of 64 bits, or a symbol's text
abbrev pub IsReadable : Written → Type 0
IsReadable NilWord = Unit {0}
IsReadable (NumberWord n) = IsValue (Num n)
IsReadable (SymbolWord t) = is_symbol t ≡ true

-- the table's name is a word, and so are key and value
pub record IsReadableEntry (e : Entry) : Type 0 where
  pub name : IsWord e.name
  pub values : AllByRecursion IsReadable (entry_values e)

abbrev pub AreReadable : List Entry → Type 0
AreReadable es = AllByRecursion IsReadableEntry es

-- what a word is read as, with the names behind it, if it is a value's
abbrev pub read_as : List (List ℕ) → List ℕ → Option Written
read_as names w = option_map (written names) (value_of names w)

-- the rows of entries, of which the first stands on this line
abbrev pub rows_from : ℕ → List Entry → List Row
rows_from n [] = []
rows_from n (e ∷ es) = row_of n e.name (entry_words e) ∷ rows_from (n + 1) es
