-- Which line of an input is told of: the first one that is a refusal's.
use Rattle.std.specs.Prelude.{Bool, if◌then◌else◌, List, [], ◌∷◌, is_some}
use Rattle.text_lines.specs.Text.{Text, lines}
use Rattle.request_files.specs.Divide.{before, behind}
use Rattle.refusal_places.specs.Answers.{said_of}

-- a line that is a refusal's, read alone
unfoldable pub is_refusal : Text → Bool
is_refusal line = is_some (said_of line)

-- the first of these lines for which the test holds; nothing where there is none
abbrev pub first_of : (Text → Bool) → List Text → Text
first_of is [] = []
first_of is (l ∷ ls) = if is l then l else first_of is ls

-- the first line of an input that is a refusal's, without its line feed
abbrev pub refusal_line : Text → Text
refusal_line input = first_of is_refusal (lines input)

-- the lines before it, with their line feeds; all where there is none
abbrev pub front_of : Text → Text
front_of = before is_refusal

-- what stands behind it and its line feed
abbrev pub back_of : Text → Text
back_of = behind is_refusal
