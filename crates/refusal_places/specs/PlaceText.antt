-- The text that shows where a rule is broken.
use Rattle.std.specs.Prelude.{ℕ, [], ◌∷◌, ◌++◌, Option, Some, None, Vec, codes}
use Rattle.std.specs.Fmt.{decimal}
use Rattle.text_lines.specs.Text.{Text}
use Rattle.refusal_places.specs.declared.refusal.Place.{Place}
use Rattle.refusal_places.specs.declared.refusal.Place.TheVariants.{Nowhere, Byte, Counted, Line}
use Rattle.refusal_places.specs.Refusals.{Said}
use Rattle.refusal_places.specs.Spots.{Spot, byte_spot, line_spot, column_of, indent_of}

-- a sentence, and a count behind it where there is one
abbrev pub counted : Text → Option ℕ → Text
counted sentence None = sentence
counted sentence (Some count) = sentence ++ codes ": " ++ decimal count

-- a place or the file alone, and what is said of it
abbrev pub head_line : Text → Text → Text
head_line place sentence = place ++ codes ": " ++ sentence ++ 10 ∷ []

-- the file, the line, the column
abbrev pub place_name : Text → Spot → Text
place_name name s = name ++ codes ":" ++ decimal s.line ++ codes ":" ++ decimal (column_of s.front)

-- what is said of a place, and its line
abbrev pub with_line : Text → Text → Spot → Text
with_line name sentence s = head_line (place_name name s) sentence ++ s.text ++ 10 ∷ []

-- the caret's line
abbrev pub caret_line : Text → Text
caret_line front = indent_of front ++ 94 ∷ 10 ∷ []

-- the text of a byte: its line with a caret under it
abbrev pub caret_text : Text → Text → Option Spot → Option Text
caret_text name sentence None = None
caret_text name sentence (Some s) = Some (with_line name sentence s ++ caret_line s.front)

-- the text of a line, which has no caret
abbrev pub line_text : Text → Text → Option Spot → Option Text
line_text name sentence None = None
line_text name sentence (Some s) = Some (with_line name sentence s)

-- what is said of a place of a file with this name; none where the file hasn't that place
abbrev pub text_at : Text → Text → Text → Place → Option Text
text_at name file sentence Nowhere = Some (head_line name sentence)
text_at name file sentence (Byte at) = caret_text name (counted sentence None) (byte_spot file at)
text_at name file sentence (Counted at count) =
    caret_text name (counted sentence (Some count)) (byte_spot file at)
text_at name file sentence (Line line) = line_text name sentence (line_spot file line)

-- the text of a refusal
abbrev pub place_text : Text → Text → Said → Option Text
place_text name file r = text_at name file r.row.sentence r.place

-- what a text of the code holds, if there is one
abbrev pub bytes_option : {Z : Type 0} → Option (Vec ℕ Z) → Option Text
bytes_option None = None
bytes_option (Some t) = Some t.items
