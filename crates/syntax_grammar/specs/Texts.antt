-- Texts that the language can write as a name or a symbol.
use Rattle.std.specs.Prelude.{◌≡◌, ℕ, ◌≤◌, true, false, List, [], length, slice_get, slice_index, unwrap_or, None, codes}
use Rattle.std.specs.Char.{is_ascii_alphabetic}
use Rattle.std.specs.List.{AllByRecursion}
use Rattle.std.specs.Str.{bytes_eq}
use Rattle.session_values.specs.Limits.{max_name}
use Rattle.session_values.specs.declared.value.Value.TheVariants.{Num}
use Rattle.session_values.specs.Values.{IsValue}
use Rattle.syntax_trees.specs.declared.file.File.{File}
use Rattle.syntax_trees.specs.Mentions.{Mention, a_name, a_symbol, a_number, file_mentions}
use Rattle.syntax_grammar.specs.declared.scan.Class.{Class}
use Rattle.syntax_grammar.specs.declared.scan.Class.TheVariants as class
use Rattle.syntax_grammar.specs.declared.word.Sort.{Sort}
use Rattle.syntax_grammar.specs.declared.word.Sort.TheVariants as sort
use Rattle.syntax_grammar.specs.declared.word.Word.{Word}
use Rattle.syntax_grammar.specs.Scan.{is_in}
use Rattle.syntax_grammar.specs.Keyword.{keyword_of}

-- the text at a place of the list of names
abbrev pub text_at : List (List ℕ) → ℕ → List ℕ
text_at names place = unwrap_or (slice_get names place) []

-- a letter, and then characters of a class, 64 bytes at most
pub record IsRun (c : Class) (text : List ℕ) : Type 0 where
  pub letter : is_ascii_alphabetic (slice_index text 0) ≡ true
  pub run : AllByRecursion (λ b. is_in c b ≡ true) text
  pub short : length text ≤ max_name

-- a name's text is no reserved word
pub record IsNameText (text : List ℕ) : Type 0 where
  pub run : IsRun class.Name text
  pub free : keyword_of text ≡ None

-- a symbol's text isn't `nil`
pub record IsSymbolText (text : List ℕ) : Type 0 where
  pub run : IsRun class.Symbol text
  pub not_nil : bytes_eq text (codes "nil") ≡ false

-- a name and a symbol have such a text, and a number is one that a program can hold
abbrev pub IsReadable : List (List ℕ) → Mention → Type 0
IsReadable names (a_name place) = IsNameText (text_at names place)
IsReadable names (a_symbol place) = IsSymbolText (text_at names place)
IsReadable names (a_number z) = IsValue (Num z)

-- the same of all that are mentioned
abbrev pub AreReadable : List (List ℕ) → List Mention → Type 0
AreReadable names mentions = AllByRecursion (IsReadable names) mentions

-- a name and a symbol have such a text
abbrev pub HasText : List (List ℕ) → Mention → Type 0
HasText names (a_name place) = IsNameText (text_at names place)
HasText names (a_symbol place) = IsSymbolText (text_at names place)
HasText names (a_number z) = Unit {0}

abbrev pub HaveTexts : List (List ℕ) → List Mention → Type 0
HaveTexts names mentions = AllByRecursion (HasText names) mentions

-- each name and each symbol of a file has a text that the language can write
abbrev pub IsNamedFile : List (List ℕ) → File → Type 0
IsNamedFile names file = HaveTexts names (file_mentions file)

-- a word whose name or symbol has such a text
abbrev pub IsReadableSort : List (List ℕ) → Sort → Type 0
IsReadableSort names (sort.Name place) = IsNameText (text_at names place)
IsReadableSort names (sort.Symbol place) = IsSymbolText (text_at names place)
IsReadableSort names s = Unit {0}

abbrev pub IsReadableWord : List (List ℕ) → Word → Type 0
IsReadableWord names word = IsReadableSort names word.sort
