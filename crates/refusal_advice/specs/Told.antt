-- What is told of a refusal: its place, and what is advised there.
use Rattle.std.specs.Prelude.{◌≡◌, ℕ, Bool, true, ◌||◌, ◌&&◌, nat_le, if◌then◌else◌, List, [], ◌∷◌, ◌++◌, length, take, Option, Some, None, Vec, codes}
use Rattle.std.specs.List.{flat_map, list_any, prefix_len}
use Rattle.std.specs.Str.{bytes_eq, is_utf8}
use Rattle.session_values.specs.Limits.{max_input}
use Rattle.text_lines.specs.Text.{is_line_byte}
use Rattle.request_files.specs.Divide.{before, is_dividing, is_table_mark}
use Rattle.request_files.specs.Text.{Text, lines as lines_of}
use Rattle.refusal_places.specs.declared.refusal.Place.{Place}
use Rattle.refusal_places.specs.declared.refusal.Place.TheVariants.{Nowhere, Byte, Counted, Line}
use Rattle.refusal_places.specs.Answers.{answer, said_of}
use Rattle.refusal_places.specs.Refusals.{Said}
use Rattle.refusal_advice.specs.Advice.{IsAdvice}

-- the rule with this word says that a token can't stand where it was found
abbrev pub is_of_grammar : Text → Bool
is_of_grammar word =
    bytes_eq word (codes "S1") || bytes_eq word (codes "S2") || bytes_eq word (codes "S4")

-- the handlers of a file, which are all of it where no line divides it
abbrev pub handlers_of : Text → Text
handlers_of text = if list_any is_dividing (lines_of text)
    then before is_table_mark (before is_dividing text) else text

-- a file that the program reads: it has at most so many bytes, which are a text
abbrev pub is_readable : List ℕ → Bool
is_readable file = nat_le (length file) max_input && is_utf8 file

-- the byte or the number of the line that a place is
abbrev pub byte_of : Place → ℕ
byte_of Nowhere = 0
byte_of (Byte at) = at
byte_of (Counted at count) = at
byte_of (Line line) = line

-- What is advised for a refusal of a text: where the grammar is broken, what was found and all that
-- could stand there. What is advised on other rules is help, of which nothing is said.
abbrev pub IsAdviceIn : Text → Said → List Text → Type 0
IsAdviceIn text r lines =
    is_of_grammar r.row.word ≡ true → IsAdvice (handlers_of text) (byte_of r.place) lines

-- the same in a file
abbrev pub IsAdviceFor : List ℕ → Said → List Text → Type 0
IsAdviceFor file r lines = is_readable file ≡ true → IsAdviceIn file r lines

-- what is advised for an input; nothing where it is no refusal
abbrev pub IsAdviceTo : List ℕ → Option Said → List Text → Type 0
IsAdviceTo file None lines = lines ≡ []
IsAdviceTo file (Some r) lines = IsAdviceFor file r lines

-- ---- the text

-- what stands in a text before its first line feed
abbrev pub first_line : Text → Text
first_line text = take (prefix_len is_line_byte text) text

-- a whole line of advice
abbrev pub advice_line : Text → Text
advice_line line = codes "= " ++ first_line line ++ 10 ∷ []

-- The text of the place that an input names, and behind it what is advised there: whole lines, each
-- behind `= `.
pub record IsTold (name file input text : List ℕ) : Type 0 where
  pub place : List ℕ
  pub lines : List Text
  pub placed : answer name file input ≡ Some place
  pub advised : IsAdviceTo file (said_of input) lines
  pub text_is : text ≡ place ++ flat_map advice_line lines

-- what is told to an input; nothing where it names no place of the file
abbrev pub IsToldTo : {Z : Type 0} → List ℕ → List ℕ → List ℕ → Option (Vec ℕ Z) → Type 0
IsToldTo name file input None = answer name file input ≡ None
IsToldTo name file input (Some text) = IsTold name file input text.items
