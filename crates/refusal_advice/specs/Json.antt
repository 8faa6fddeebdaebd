-- The JSON that tells of a refusal: one object with what the text tells. A value's text, with the
-- escapes of JSON, is the kit's `compact_text`.
use Rattle.std.specs.Prelude.{◌≡◌, ℕ, List, [], ◌∷◌, ◌++◌, map, Option, Some, None, Vec, codes}
use Rattle.serde_json.specs.Data.{Data, null, number, unsigned, string, array, object, member, no_members}
use Rattle.serde_json.specs.View.{items_of}
use Rattle.serde_json.specs.Written.{compact_text}
use Rattle.text_lines.specs.Text.{Text}
use Rattle.refusal_places.specs.declared.refusal.Place.{Place}
use Rattle.refusal_places.specs.declared.refusal.Place.TheVariants.{Nowhere, Byte, Counted, Line}
use Rattle.refusal_places.specs.Answers.{answer, said_of}
use Rattle.refusal_places.specs.PlaceText.{counted}
use Rattle.refusal_places.specs.Refusals.{Said}
use Rattle.refusal_places.specs.Spots.{Spot, byte_spot, column_of, line_spot}
use Rattle.refusal_advice.specs.Told.{IsAdviceFor, IsToldTo, first_line}
use Rattle.refusal_advice.specs.declared.explaining.Form.{Form}
use Rattle.refusal_advice.specs.declared.explaining.Form.TheVariants as form
use Rattle.refusal_advice.specs.declared.json.Numbers.{Numbers}

-- a count; null where there is none
abbrev pub count_value : Option ℕ → Data
count_value None = null
count_value (Some n) = number (unsigned n)

-- a line of advice
abbrev pub line_value : Text → Data
line_value line = string (first_line line)

-- all of them
abbrev pub advice_value : List Text → Data
advice_value advice = array (items_of (map line_value advice))

-- ---- the place

abbrev pub numbers : Option ℕ → Option ℕ → Numbers
numbers line column = record { line = line; column = column }

-- a place's line and column, if the file has it
abbrev pub spot_numbers : Option Spot → Option Numbers
spot_numbers None = None
spot_numbers (Some s) = Some (numbers (Some s.line) (Some (column_of s.front)))

-- where no place is named, both are null
abbrev pub numbers_of : Text → Place → Option Numbers
numbers_of file Nowhere = Some (numbers None None)
numbers_of file (Byte at) = spot_numbers (byte_spot file at)
numbers_of file (Counted at count) = spot_numbers (byte_spot file at)
numbers_of file (Line line) = spot_numbers (line_spot file line)

-- the count that a place has beside it, if it has one
abbrev pub count_of : Place → Option ℕ
count_of Nowhere = None
count_of (Byte at) = None
count_of (Counted at count) = Some count
count_of (Line line) = None

-- ---- the object

-- an object with these members, in the order of their names
abbrev pub object_of : (advice : Data) (place : Numbers) (file rule sentence : Text) → Data
object_of advice place file rule sentence = object (
    member (codes "advice") advice (
    member (codes "column") (count_value place.column) (
    member (codes "file") (string file) (
    member (codes "line") (count_value place.line) (
    member (codes "rule") (string rule) (
    member (codes "sentence") (string sentence) no_members))))))

-- that of a refusal in a file with this name
abbrev pub refusal_value : Text → Said → Numbers → List Text → Data
refusal_value name r place advice = object_of (advice_value advice) place name r.row.word
    (counted r.row.sentence (count_of r.place))

-- a value's text, and a line feed
abbrev pub json_text : Data → Text
json_text d = compact_text d ++ 10 ∷ []

-- the JSON on a refusal in a file with this name, whose place the file has
pub record IsJsonOf (name file : Text) (r : Said) (text : Text) : Type 0 where
  pub place : Numbers
  pub advice : List Text
  pub placed : numbers_of file r.place ≡ Some place
  pub advised : IsAdviceFor file r advice
  pub text_is : text ≡ json_text (refusal_value name r place advice)

-- on the refusal that an input is
abbrev pub IsJsonBy : Text → Text → Option Said → Text → Type 0
IsJsonBy name file None text = ⊥
IsJsonBy name file (Some r) text = IsJsonOf name file r text

-- The JSON on an input that names a place of the file: then the text has that place too.
pub record IsJson (name file input text : Text) : Type 0 where
  pub place : Text
  pub placed : answer name file input ≡ Some place
  pub told : IsJsonBy name file (said_of input) text

-- the JSON on an input; none exactly where its text is none
abbrev pub IsJsonTo : {Z : Type 0} → Text → Text → Text → Option (Vec ℕ Z) → Type 0
IsJsonTo name file input None = answer name file input ≡ None
IsJsonTo name file input (Some text) = IsJson name file input text.items

-- what is told to an input in this form
abbrev pub IsExplained : {Z : Type 0} → Form → Text → Text → Text → Option (Vec ℕ Z) → Type 0
IsExplained form.Text name file input text = IsToldTo name file input text
IsExplained form.Json name file input text = IsJsonTo name file input text

-- ---- what the code finds

-- the same of a refusal
abbrev pub IsJsonIn : {Z : Type 0} → Text → Text → Said → Option (Vec ℕ Z) → Type 0
IsJsonIn name file r None = numbers_of file r.place ≡ None
IsJsonIn name file r (Some text) = IsJsonOf name file r text.items
