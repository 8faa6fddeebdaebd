-- What a word of a line may be: the word of an operation, an operand, the mark between symbols.
use Rattle.std.specs.Prelude.{ℤ, ◌==◌, if◌then◌else◌, List, [], ◌∷◌, codes, Option, Some, None}
use Rattle.std.specs.List.{before_first, after_first}
use Rattle.std.specs.Str.{bytes_eq}
use Rattle.session_values.specs.declared.value.Value.{Value}
use Rattle.text_lines.specs.Text.{Text}
use Rattle.text_lines.specs.Values.{number, value_of}
use Rattle.range_tables.specs.declared.word.Operand.{Operand}
use Rattle.range_tables.specs.declared.word.Operand.TheVariants.{Known, Any, Range}
use Rattle.range_tables.specs.declared.word.Verb.{Verb}
use Rattle.range_tables.specs.declared.word.Verb.TheVariants as verb
use Rattle.range_tables.specs.declared.word.Word.{Word}

-- the word of an operation
unfoldable pub verb_of : Text → Option Verb
verb_of w =
    if bytes_eq w (codes "get") then Some verb.Get
    else (if bytes_eq w (codes "put") then Some verb.Put
    else (if bytes_eq w (codes "swap") then Some verb.Swap
    else (if bytes_eq w (codes "del") then Some verb.Del
    else (if bytes_eq w (codes "size") then Some verb.Size
    else (if bytes_eq w (codes "bump") then Some verb.Bump
    else (if bytes_eq w (codes "between") then Some verb.Between else None))))))

-- ---- operands

-- two points, and then a number
abbrev pub after_point : Text → Option ℤ
after_point [] = None
after_point (b ∷ bs) = if b == 46 then number bs else None

abbrev pub range_by : Option ℤ → Option ℤ → Option Operand
range_by (Some low) (Some high) = Some (Range low high)
range_by (Some low) None = None
range_by None high = None

-- a number, two points and a number
unfoldable pub range_of : Text → Option Operand
range_of w = range_by (number (before_first (λ b. b == 46) w))
    (after_point (after_first (λ b. b == 46) w))

abbrev pub known_or : Option Value → Option Operand → Option Operand
known_or (Some v) range = Some (Known v)
known_or None range = range

-- `any`, a value, or a range; symbols have their places in these names
unfoldable pub operand_of : List Text → Text → Option Operand
operand_of names w =
    if bytes_eq w (codes "any") then Some Any else known_or (value_of names w) (range_of w)

-- ---- words

abbrev pub word_of : List Text → Text → Word
word_of names w = record {
  verb = verb_of w;
  operand = operand_of names w;
  is_mark = bytes_eq w (codes ";");
}
