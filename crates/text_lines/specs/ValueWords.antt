-- Values as words, and as literals.
use Rattle.std.specs.Prelude.{◌≡◌, ℕ, List, ◌∷◌, drop, slice_get, slice_index, ◌==◌, if◌then◌else◌, Option, Some, None, true}
use Rattle.session_values.specs.declared.value.Value.{Value}
use Rattle.session_values.specs.declared.value.Value.TheVariants.{Nil, Num, Sym}
use Rattle.session_values.specs.Names.{place_of}
use Rattle.session_values.specs.ReplyText.{value_text}
use Rattle.session_values.specs.Values.{IsValue}
use Rattle.text_lines.specs.Values.{is_nil, is_symbol, number, as_value}

-- the place has the text of a symbol
pub record IsSymbolAt (names : List (List ℕ)) (place : ℕ) : Type 0 where
  pub text : List ℕ
  pub at : slice_get names place ≡ Some text
  pub symbol : is_symbol text ≡ true

-- a value that a word says: its number is one of 64 bits, its place has the text of a symbol
abbrev pub IsWritable : List (List ℕ) → Value → Type 0
IsWritable names Nil = Unit {0}
IsWritable names (Num n) = IsValue (Num n)
IsWritable names (Sym place) = IsSymbolAt names place

-- the word of a value
abbrev pub word_of : List (List ℕ) → Value → List ℕ
word_of = value_text

-- a value as a literal: a symbol has its quote
abbrev pub literal_text : List (List ℕ) → Value → List ℕ
literal_text names Nil = value_text names Nil
literal_text names (Num n) = value_text names (Num n)
literal_text names (Sym place) = 39 ∷ value_text names (Sym place)

-- the value of a literal, if it is one
abbrev pub literal_value : List (List ℕ) → List ℕ → Option Value
literal_value names w =
    if slice_index w 0 == 39
    then (if is_symbol (drop 1 w) then Some (Sym (place_of names (drop 1 w))) else None)
    else (if is_nil w then Some Nil else as_value (number w))
