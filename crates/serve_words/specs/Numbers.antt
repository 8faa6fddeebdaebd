-- The numbers of a command line.
use Rattle.std.specs.Prelude.{ℕ, Bool, not, ◌&&◌, ◌||◌, ◌==◌, nat_le, nat_lt, if◌then◌else◌, List, length, slice_index, Option, Some, None}
use Rattle.std.specs.Str.{all_ascii_digits}
use Rattle.text_lines.specs.Values.{number_from}

-- the number that digits say
abbrev pub size_of : List ℕ → ℕ
size_of word = number_from 0 word

-- digits, without a sign, and without a leading zero but for `0` itself
abbrev pub is_number : List ℕ → Bool
is_number word = nat_lt 0 (length word) && all_ascii_digits word
    && (nat_le (length word) 1 || not (slice_index word 0 == 48))

-- the number of 32 bits that a word says, if it is one
unfoldable pub number : List ℕ → Option ℕ
number word = if is_number word && nat_le (size_of word) 4294967295 then Some (size_of word)
    else None

-- a number, if it is one from `low` to `high`
abbrev pub within : ℕ → ℕ → Option ℕ → Option ℕ
within low high None = None
within low high (Some n) = if nat_le low n && nat_le n high then Some n else None

-- the number that a word says, if it is one from `low` to `high`
abbrev pub number_within : ℕ → ℕ → List ℕ → Option ℕ
number_within low high word = within low high (number word)
