-- Arguments that are given without a line, and the words that say them.
use Rattle.std.specs.Prelude.{◌≡◌, ℕ, List, [], ◌∷◌, ◌++◌, codes, if◌then◌else◌, map, Option, Some}
use Rattle.std.specs.Prelude.{None, slice_get, MatchOption}
use Rattle.std.specs.Fmt.{signed_decimal}
use Rattle.std.specs.Option.{option_or, unwrap_or}
use Rattle.session_values.specs.declared.value.Value.{Value}
use Rattle.session_values.specs.declared.value.Value.TheVariants.{Num}
use Rattle.session_values.specs.Values.{IsValue}
use Rattle.text_lines.specs.Text.{Text}
use Rattle.text_lines.specs.Values.{is_symbol, placed, value_of}
use Rattle.live_session.specs.declared.answers.InvokeError.{InvokeError}
use Rattle.live_session.specs.declared.answers.InvokeError.TheVariants as uninvoked
use Rattle.live_session.specs.declared.argument.Argument.{Argument}
use Rattle.live_session.specs.declared.argument.Argument.TheVariants as argument

-- the text of a name's number, which is empty where there is none
abbrev pub name_at : List Text → ℕ → Text
name_at names n = unwrap_or (slice_get names n) []

-- the word of an argument
abbrev pub word_of : List Text → Argument → Text
word_of names argument.Nil = codes "nil"
word_of names (argument.Number n) = signed_decimal n
word_of names (argument.Symbol text) = text.now
word_of names (argument.Name n) = name_at names n

abbrev pub words_of : List Text → List Argument → List Text
words_of names args = map (word_of names) args

-- ---- which arguments no word says

-- a text that is no symbol's, or a number that isn't that of a symbol's name
abbrev pub argument_fault : List Text → Argument → Option InvokeError
argument_fault names argument.Nil = None
argument_fault names (argument.Number n) = None
argument_fault names (argument.Symbol text) =
    if is_symbol text.now then None else Some uninvoked.NoSymbol
argument_fault names (argument.Name n) =
    if is_symbol (name_at names n) then None else Some uninvoked.NoName

-- that of the first argument that has one
abbrev pub first_fault : List Text → List Argument → Option InvokeError
first_fault names [] = None
first_fault names (a ∷ args) = option_or (argument_fault names a) (first_fault names args)

-- ---- on the way. Only this crate's own functions cite these.

-- a program holds its number
abbrev pub IsHeld : Argument → Type 0
IsHeld argument.Nil = Unit {0}
IsHeld (argument.Number n) = IsValue (Num n)
IsHeld (argument.Symbol text) = Unit {0}
IsHeld (argument.Name n) = Unit {0}

-- the value of a word that places no new name, or none where it is new
abbrev pub Known : List Text → Text → Option Value → Type 0
Known names w o = MatchOption o (placed names w ≡ names ++ w ∷ [])
    (λ v. (value_of names w ≡ Some v) × (placed names w ≡ names))
