-- Words as values, and the names that they place.
use Rattle.std.specs.Prelude.{ℕ, ◌+◌, ◌-◌, ◌*◌, ◌^◌, ℤ, pos, neg_ℤ, Bool, not, ◌&&◌, ◌==◌, nat_le, nat_lt, if◌then◌else◌, List, [], ◌∷◌, drop, length, map, slice_index, codes, Option, Some, None, is_some, unwrap_or}
use Rattle.std.specs.Char.{is_ascii_alphabetic}
use Rattle.std.specs.List.{list_all}
use Rattle.std.specs.Str.{bytes_eq, all_ascii_digits}
use Rattle.session_values.specs.Limits.{max_name}
use Rattle.text_lines.specs.Bytes.{is_symbol_byte}
use Rattle.session_values.specs.Names.{with_text, place_of}
use Rattle.session_values.specs.declared.value.Value.{Value}
use Rattle.session_values.specs.declared.value.Value.TheVariants.{Nil, Num, Sym}
use Rattle.text_lines.specs.Text.{Text}

-- ---- numbers: an optional minus, then digits

abbrev pub has_minus : Text → Bool
has_minus w = slice_index w 0 == 45

abbrev pub digits_of : Text → Text
digits_of w = if has_minus w then drop 1 w else w

-- the number that digits say, which follow those of n
abbrev pub number_from : ℕ → Text → ℕ
number_from n [] = n
number_from n (b ∷ bs) = number_from (n * 10 + (b - 48)) bs

abbrev pub size_of : Text → ℕ
size_of w = number_from 0 (digits_of w)

-- the largest size within i64
abbrev pub size_limit : Text → ℕ
size_limit w = if has_minus w then 2 ^ 63 else 2 ^ 63 - 1

abbrev pub is_number : Text → Bool
is_number w = nat_lt 0 (length (digits_of w)) && all_ascii_digits (digits_of w)
    && nat_le (size_of w) (size_limit w)

abbrev pub number_of : Text → ℤ
number_of w = if has_minus w then neg_ℤ (pos (size_of w)) else pos (size_of w)

-- the number that a word is, if it is one
unfoldable pub number : Text → Option ℤ
number w = if is_number w then Some (number_of w) else None

-- ---- symbols

abbrev pub is_nil : Text → Bool
is_nil w = bytes_eq w (codes "nil")

-- whether a word is a symbol: a letter and characters of symbols, 64 bytes at most, not `nil`
unfoldable pub is_symbol : Text → Bool
is_symbol w = not (is_nil w) && is_ascii_alphabetic (slice_index w 0) && nat_le (length w) max_name
    && list_all is_symbol_byte w

-- ---- values

abbrev pub as_value : Option ℤ → Option Value
as_value None = None
as_value (Some n) = Some (Num n)

-- the value of a word, where symbols have their places in these names
unfoldable pub value_of : List Text → Text → Option Value
value_of names w = if is_symbol w then Some (Sym (place_of names w))
    else (if is_nil w then Some Nil else as_value (number w))

-- whether a word is a value; the names don't matter
unfoldable pub is_value : Text → Bool
is_value w = is_some (value_of [] w)

abbrev pub values_of : List Text → List Text → List Value
values_of names ws = map (λ w. unwrap_or (value_of names w) Nil) ws

-- the names with a word that is a symbol
unfoldable pub placed : List Text → Text → List Text
placed names w = if is_symbol w then with_text names w else names

-- the names with all symbols among some words, in their order
unfoldable pub placed_all : List Text → List Text → List Text
placed_all names [] = names
placed_all names (w ∷ ws) = placed_all (placed names w) ws
