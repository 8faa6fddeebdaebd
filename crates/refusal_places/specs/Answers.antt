-- What is answered to the line of a refusal, beside the file that was refused.
use Rattle.std.specs.Prelude.{Bool, true, false, if◌then◌else◌, Option, Some, None, codes}
use Rattle.std.specs.Str.{bytes_eq, is_utf8}
use Rattle.text_lines.specs.Text.{Text}
use Rattle.refusal_places.specs.declared.refusal.Place.{Place}
use Rattle.refusal_places.specs.declared.refusal.Place.TheVariants.{Nowhere}
use Rattle.refusal_places.specs.PlaceText.{place_text}
use Rattle.refusal_places.specs.Refusals.{Said, refusal_of}

-- the refusal that an input is, if it is one: a line of UTF-8 with its words
abbrev pub said_of : Text → Option Said
said_of input = if is_utf8 input then refusal_of input else None

-- What is told of a refusal depends on what the file holds: it names a byte or a line, or its rule
-- is that of the missing line between handlers and requests.
abbrev pub needs : Text → Place → Bool
needs word Nowhere = bytes_eq word (codes "T2")
needs word _ = true

abbrev pub needs_file : Option Said → Bool
needs_file None = false
needs_file (Some r) = needs r.row.word r.place

-- the text of a refusal, if there is one
abbrev pub answer_by : Text → Text → Option Said → Option Text
answer_by name file None = None
answer_by name file (Some r) = place_text name file r

-- What is answered; none where the input is no refusal or names a place that the file hasn't.
abbrev pub answer : Text → Text → Text → Option Text
answer name file input = answer_by name file (said_of input)
