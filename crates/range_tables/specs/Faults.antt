-- The first fault of a text of lines.
use Rattle.std.specs.Prelude.{ℕ, ℤ, pos, negsuc, ◌+◌, Bool, false, ◌&&◌, ◌||◌, nat_le, nat_lt}
use Rattle.std.specs.Prelude.{if◌then◌else◌, List, [], ◌∷◌, ◌++◌, length, map, slice_index_or}
use Rattle.std.specs.Prelude.{slice_set, Option, Some, None, is_some, Result, Ok, Err}
use Rattle.std.specs.List.{count_by}
use Rattle.std.specs.Option.{option_or}
use Rattle.range_tables.specs.declared.range_symbol.RangeSymbol.{RangeSymbol}
use Rattle.text_lines.specs.Text.{Text, lines}
use Rattle.text_lines.specs.Rows.{Row, rows, names_behind}
use Rattle.range_tables.specs.declared.refusal.RangeRefusal.{RangeRefusal}
use Rattle.range_tables.specs.declared.refusal.RangeRefusal.TheVariants as refusal
use Rattle.range_tables.specs.declared.step.Flaw.{Flaw}
use Rattle.range_tables.specs.declared.step.Flaw.TheVariants.{UnknownWord, Arity, BadWord}
use Rattle.range_tables.specs.declared.step.Step.{Step}
use Rattle.range_tables.specs.declared.step.Step.TheVariants.{Hold, Free, Do}
use Rattle.range_tables.specs.Steps.{is_hold, parts, step_of}
use Rattle.range_tables.specs.declared.word.Word.{Word}
use Rattle.range_tables.specs.Words.{word_of}

-- ---- limits

-- the lines with words
abbrev pub max_lines : ℕ
max_lines = 4000

-- the holds that are open at once
abbrev pub max_holds : ℕ
max_holds = 64

-- the symbols of a hold
abbrev pub max_symbols : ℕ
max_symbols = 256

-- ---- holds

-- the symbols of each hold by its number, or none where it is closed
abbrev pub Holds : Type 0
Holds = List (Option (List RangeSymbol))

abbrev pub is_open : Holds → ℤ → Bool
is_open holds (pos n) = is_some (slice_index_or holds n None)
is_open holds (negsuc n) = false

abbrev pub closed : Holds → ℤ → Holds
closed holds (pos n) = slice_set holds n None
closed holds (negsuc n) = holds

-- the holds after a step
abbrev pub holds_after : Holds → Result Step Flaw → Holds
holds_after holds (Ok (Hold symbols)) = holds ++ Some symbols ∷ []
holds_after holds (Ok (Free n)) = closed holds n
holds_after holds (Ok (Do op)) = holds
holds_after holds (Err f) = holds

-- ---- faults, in the order in which they are tried on one line

-- a line too many, a hold too many, or a symbol too many
abbrev pub is_too_many : ℕ → Holds → Text → List Word → Bool
is_too_many seen holds name ws = nat_le max_lines seen
    || (is_hold name && (nat_le max_holds (count_by is_some holds)
    || nat_lt max_symbols (length (parts ws))))

abbrev pub flaw_at : ℕ → Flaw → RangeRefusal
flaw_at line UnknownWord = refusal.UnknownWord line
flaw_at line Arity = refusal.Arity line
flaw_at line BadWord = refusal.BadWord line

abbrev pub step_fault : ℕ → Holds → Result Step Flaw → Option RangeRefusal
step_fault line holds (Err f) = Some (flaw_at line f)
step_fault line holds (Ok (Hold symbols)) = None
step_fault line holds (Ok (Free n)) = if is_open holds n then None
    else Some (refusal.NotOpen line)
step_fault line holds (Ok (Do op)) = None

-- the fault of a line behind so many lines with words, where these are the holds, if it has one
unfoldable pub fault_of : ℕ → ℕ → Holds → Text → List Word → Option RangeRefusal
fault_of line seen holds name ws =
    if is_too_many seen holds name ws then Some (refusal.TooMany line)
    else step_fault line holds (step_of name ws)

abbrev pub words_in : List Text → Row → List Word
words_in names r = map (word_of names) r.args

-- the first fault of some lines, if there is one
unfoldable pub first_fault : List Text → ℕ → Holds → List Row → Option RangeRefusal
first_fault names seen holds [] = None
first_fault names seen holds (r ∷ rs) =
    option_or (fault_of r.line seen holds r.name (words_in names r))
    (first_fault names (seen + 1) (holds_after holds (step_of r.name (words_in names r))) rs)

-- ---- of a text

-- the lines with words
abbrev pub rows_of : Text → List Row
rows_of text = rows 1 (lines text)

-- each symbol in the text
abbrev pub names_of : Text → List Text
names_of text = names_behind [] (rows_of text)

-- the first fault of a text of lines, if it has one
abbrev pub text_fault : Text → Option RangeRefusal
text_fault text = first_fault (names_of text) 0 [] (rows_of text)
