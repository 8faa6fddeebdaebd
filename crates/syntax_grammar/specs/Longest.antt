-- The token at the front of a text, told from what texts are tokens.
use Rattle.std.specs.Prelude.{◌≡◌, ℕ, ◌<◌, ◌≤◌, ◌⊎◌, true, List, ◌∷◌, length, take, drop, slice_index, is_some, codes}
use Rattle.std.specs.Char.{is_ascii_alphabetic}
use Rattle.std.specs.List.{prefix_len, AllByRecursion}
use Rattle.session_values.specs.Limits.{max_name}
use Rattle.syntax_grammar.specs.declared.scan.Class.{Class}
use Rattle.syntax_grammar.specs.declared.scan.Class.TheVariants as class
use Rattle.syntax_grammar.specs.declared.token_kind.TokenKind.{TokenKind}
use Rattle.syntax_grammar.specs.declared.token_kind.TokenKind.TheVariants as kind
use Rattle.syntax_grammar.specs.Keyword.{keyword_of, sign_of}
use Rattle.syntax_grammar.specs.Scan.{is_in, char_length}
use Rattle.syntax_grammar.specs.Texts.{IsNameText, IsSymbolText}

-- one or more digits
pub record IsDigits (text : List ℕ) : Type 0 where
  pub some : 0 < length text
  pub run : AllByRecursion (λ b. is_in class.Digit b ≡ true) text

-- a letter, and then characters of a class, more than 64 bytes
pub record IsLongRun (c : Class) (text : List ℕ) : Type 0 where
  pub letter : is_ascii_alphabetic (slice_index text 0) ≡ true
  pub run : AllByRecursion (λ b. is_in c b ≡ true) text
  pub long : max_name < length text

-- a quote, and such a text behind it
pub record IsQuoted (P : List ℕ → Type 0) (text : List ℕ) : Type 0 where
  pub run : List ℕ
  pub is : text ≡ 39 ∷ run
  pub good : P run

-- the texts of each kind of token, but for a bad character and the end
abbrev pub IsShape : TokenKind → List ℕ → Type 0
IsShape kind.Name text = IsNameText text
IsShape kind.Key text = is_some (keyword_of text) ≡ true
IsShape kind.Symbol text = IsQuoted IsSymbolText text
IsShape kind.Number text = IsDigits text
IsShape kind.Sign text = is_some (sign_of text) ≡ true
IsShape kind.Long text = IsLongRun class.Name text ⊎ IsQuoted (IsLongRun class.Symbol) text
IsShape k text = ⊥

-- no front of the text that is longer is a token
abbrev pub IsLongest : List ℕ → ℕ → Type 0
IsLongest text n = (k : TokenKind) (m : ℕ) → n < m → m ≤ length text → IsShape k (take m text) → ⊥

-- a quote, behind which the longest run of a symbol's characters is `nil`
pub record IsQuotedNil (text : List ℕ) : Type 0 where
  pub quote : slice_index text 0 ≡ 39
  pub run : take (prefix_len (is_in class.Symbol) (drop 1 text)) (drop 1 text) ≡ codes "nil"

-- The token at the front of a text that isn't empty: the longest front that is one; or, where none
-- is or a quote stands before `nil`, one bad character. A front of a quote with `nil` is no token
-- there.
abbrev pub IsFirstToken : List ℕ → TokenKind → ℕ → Type 0
IsFirstToken text kind.Bad n = (n ≡ char_length (slice_index text 0))
    × (IsLongest text 0 ⊎ IsQuotedNil text)
IsFirstToken text k n = IsShape k (take n text) × IsLongest text n × (n ≤ length text)
    × (IsQuotedNil text → ⊥)
