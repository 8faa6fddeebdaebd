-- The line of a refusal: what its words say.
use Rattle.std.specs.Prelude.{ℕ, if◌then◌else◌, List, [], ◌∷◌, Option, Some, None, codes}
use Rattle.std.specs.Str.{bytes_eq}
use Rattle.serve_words.specs.Numbers.{number}
use Rattle.text_lines.specs.Text.{Text, lines, words}
use Rattle.refusal_places.specs.declared.rule.PlaceKind.{PlaceKind}
use Rattle.refusal_places.specs.declared.rule.PlaceKind.TheVariants as kind
use Rattle.refusal_places.specs.declared.refusal.Place.{Place}
use Rattle.refusal_places.specs.declared.refusal.Place.TheVariants as place
use Rattle.refusal_places.specs.declared.refusal.Refusal.{Refusal}
use Rattle.refusal_places.specs.RuleTable.{Row, row_of, rule_of}

-- a refusal: the row of the rule that is broken, and where
pub record Said : Type 0 where
  pub row : Row
  pub place : Place

abbrev pub said : Row → Place → Said
said row place = record { row = row; place = place }

-- what a refusal of the code says, if there is one
abbrev pub said_option : Option Refusal → Option Said
said_option None = None
said_option (Some r) = Some (said (row_of r.rule) r.place)

-- a number, if there is one, with the words behind it
abbrev pub number_with : Option ℕ → List Text → Option (ℕ × List Text)
number_with None ws = None
number_with (Some n) ws = Some (n, ws)

-- the number behind this word at the front, with the words behind the number
abbrev pub named_number : Text → List Text → Option (ℕ × List Text)
named_number name (w ∷ v ∷ ws) = if bytes_eq w name then number_with (number v) ws else None
named_number name _ = None

-- a place, if no word is left
abbrev pub alone : Place → List Text → Option Place
alone p [] = Some p
alone p (w ∷ ws) = None

-- the byte, where it was read and no word is left
abbrev pub byte_place : Option (ℕ × List Text) → Option Place
byte_place None = None
byte_place (Some p) = alone (place.Byte p.0) p.1

-- the line likewise
abbrev pub line_place : Option (ℕ × List Text) → Option Place
line_place None = None
line_place (Some p) = alone (place.Line p.0) p.1

-- the byte and the count likewise
abbrev pub counted_by : ℕ → Option (ℕ × List Text) → Option Place
counted_by at None = None
counted_by at (Some p) = alone (place.Counted at p.0) p.1

abbrev pub counted_place : Option (ℕ × List Text) → Option Place
counted_place None = None
counted_place (Some p) = counted_by p.0 (named_number (codes "count") p.1)

-- the place that the words behind a rule's word name: nothing, `at N`, `at N count C` or `line N`
abbrev pub place_of : PlaceKind → List Text → Option Place
place_of kind.Nowhere ws = alone place.Nowhere ws
place_of kind.Byte ws = byte_place (named_number (codes "at") ws)
place_of kind.Counted ws = counted_place (named_number (codes "at") ws)
place_of kind.Line ws = line_place (named_number (codes "line") ws)

-- a rule's row with a place, if there is one
abbrev pub said_at : Row → Option Place → Option Said
said_at row None = None
said_at row (Some p) = Some (said row p)

-- a rule's row, if there is one, with the place that these words name
abbrev pub said_by : Option Row → List Text → Option Said
said_by None ws = None
said_by (Some row) ws = said_at row (place_of row.place ws)

-- what the words of a line say: `refused`, a rule's word, and the place
abbrev pub said_in : List Text → Option Said
said_in (refused ∷ word ∷ ws) =
    if bytes_eq refused (codes "refused") then said_by (rule_of word) ws else None
said_in _ = None

-- what one line says, and nothing where there are more or fewer
abbrev pub said_alone : List Text → Option Said
said_alone (line ∷ []) = said_in (words line)
said_alone _ = None

-- the refusal that a text of one line is, if it is one
abbrev pub refusal_of : Text → Option Said
refusal_of text = said_alone (lines text)
