-- The words of a source, and the list of names behind it.
use Rattle.std.specs.Prelude.{ℕ, ◌+◌, ◌-◌, ◌*◌, ◌^◌, min, ◌==◌, if◌then◌else◌, List, [], ◌∷◌, drop, slice_index, Option, Some, None}
use Rattle.session_values.specs.Names.{with_text, place_of, IsNamed}
use Rattle.syntax_grammar.specs.declared.token_kind.TokenKind.{TokenKind}
use Rattle.syntax_grammar.specs.declared.token_kind.TokenKind.TheVariants as kind
use Rattle.syntax_grammar.specs.declared.word.Sort.{Sort}
use Rattle.syntax_grammar.specs.declared.word.Sort.TheVariants as sort
use Rattle.syntax_grammar.specs.declared.word.Word.{Word}
use Rattle.syntax_grammar.specs.Keyword.{keyword_of, sign_of}
use Rattle.syntax_grammar.specs.Tokens.{Piece, pieces}

-- the number that the digits say, which follow those of n
abbrev pub number_from : ℕ → List ℕ → ℕ
number_from n [] = n
number_from n (digit ∷ digits) = number_from (n * 10 + (digit - 48)) digits

-- a number's value, or 2^64 - 1 where it is larger
unfoldable pub number_of : List ℕ → ℕ
number_of text = min (number_from 0 text) (2 ^ 64 - 1)

-- a symbol's text is its token's without the quote
unfoldable pub unquoted : List ℕ → List ℕ
unquoted text = if slice_index text 0 == 39 then drop 1 text else text

-- the sort, or Bad where there is none
abbrev pub or_bad : Option Sort → Sort
or_bad None = sort.Bad
or_bad (Some s) = s

-- the names after a token of this kind and text
abbrev pub names_by : TokenKind → List ℕ → List (List ℕ) → List (List ℕ)
names_by kind.Name text names = with_text names text
names_by kind.Symbol text names = with_text names (unquoted text)
names_by k text names = names

-- what the token is to the grammar, where these are the names after it
abbrev pub sort_by : TokenKind → List ℕ → List (List ℕ) → Sort
sort_by kind.Name text names = sort.Name (place_of names text)
sort_by kind.Key text names = or_bad (keyword_of text)
sort_by kind.Symbol text names = sort.Symbol (place_of names (unquoted text))
sort_by kind.Number text names = sort.Number (number_of text)
sort_by kind.Sign text names = or_bad (sign_of text)
sort_by kind.Long text names = sort.Long
sort_by kind.Bad text names = sort.Bad
sort_by kind.End text names = sort.End

-- the names after a token
unfoldable pub names_after : List (List ℕ) → Piece → List (List ℕ)
names_after names piece = names_by piece.kind piece.text names

-- the word of a token
unfoldable pub word_after : List (List ℕ) → Piece → Word
word_after names piece = record {
  sort = sort_by piece.kind piece.text
      (names_by piece.kind piece.text names);
  at = piece.start;
}

-- the words of tokens, in order
abbrev pub words : List (List ℕ) → List Piece → List Word
words names [] = []
words names (piece ∷ rest) = word_after names piece ∷ words (names_after names piece) rest

-- the names behind tokens
abbrev pub names_behind : List (List ℕ) → List Piece → List (List ℕ)
names_behind names [] = names
names_behind names (piece ∷ rest) = names_behind (names_after names piece) rest

-- the words of a whole source
unfoldable pub words_of : List (List ℕ) → List ℕ → List Word
words_of names source = words names (pieces 0 0 source)

-- the names behind it: the old ones, and each new text where it first stands
unfoldable pub names_of : List (List ℕ) → List ℕ → List (List ℕ)
names_of names source = names_behind names (pieces 0 0 source)

-- the word in hand, which is the end where none is left
abbrev pub first_word : ℕ → List Word → Word
first_word end [] = record { sort = sort.End; at = end }
first_word end (word ∷ rest) = word

-- the place of a name or a symbol is one of the names
abbrev pub IsNamedSort : List (List ℕ) → Sort → Type 0
IsNamedSort names (sort.Name place) = IsNamed names place
IsNamedSort names (sort.Symbol place) = IsNamed names place
IsNamedSort names s = Unit {0}

-- the same of a word
abbrev pub IsNamedWord : List (List ℕ) → Word → Type 0
IsNamedWord names word = IsNamedSort names word.sort

-- the kind of a word's token
abbrev pub kind_of : Sort → TokenKind
kind_of (sort.Name n) = kind.Name
kind_of (sort.Symbol n) = kind.Symbol
kind_of (sort.Number n) = kind.Number
kind_of sort.Comma = kind.Sign
kind_of sort.Semicolon = kind.Sign
kind_of sort.Assign = kind.Sign
kind_of sort.LeftParen = kind.Sign
kind_of sort.RightParen = kind.Sign
kind_of sort.LeftBrace = kind.Sign
kind_of sort.RightBrace = kind.Sign
kind_of (sort.Compare c) = kind.Sign
kind_of sort.Plus = kind.Sign
kind_of sort.Minus = kind.Sign
kind_of sort.Times = kind.Sign
kind_of sort.Long = kind.Long
kind_of sort.Bad = kind.Bad
kind_of sort.End = kind.End
kind_of _ = kind.Key
