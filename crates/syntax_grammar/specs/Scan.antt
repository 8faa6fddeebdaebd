-- The longest token at the front of a text: its kind and its length.
use Rattle.std.specs.Prelude.{ℕ, ◌+◌, Bool, true, false, ◌||◌, ◌&&◌, if◌then◌else◌, ◌==◌, nat_lt, List, [], ◌∷◌, take, drop, slice_index, codes}
use Rattle.std.specs.Char.{is_ascii_digit, is_ascii_alphabetic, is_ascii_alphanumeric}
use Rattle.std.specs.List.{prefix_len}
use Rattle.std.specs.Str.{bytes_eq}
use Rattle.session_values.specs.Limits.{max_name}
use Rattle.text_lines.specs.Bytes.{is_blank, is_symbol_byte}
use Rattle.syntax_grammar.specs.declared.scan.Class.{Class}
use Rattle.syntax_grammar.specs.declared.scan.Class.TheVariants as class
use Rattle.syntax_grammar.specs.declared.token_kind.TokenKind.{TokenKind}
use Rattle.syntax_grammar.specs.declared.token_kind.TokenKind.TheVariants as kind

-- a letter, a digit or `_`; what a symbol is made of; or a digit
abbrev pub is_in : Class → ℕ → Bool
is_in class.Name b = is_ascii_alphanumeric b || b == 95
is_in class.Symbol b = is_symbol_byte b
is_in class.Digit b = is_ascii_digit b

-- a kind and a length
abbrev pub Scanned : Type 0
Scanned = TokenKind × ℕ

-- a name of this length
abbrev pub name_of_length : ℕ → Scanned
name_of_length n = if nat_lt max_name n then (kind.Long, n) else (kind.Name, n)

-- the longest run, which is a name or a reserved word
unfoldable pub scan_name : List ℕ → Scanned
scan_name text = name_of_length (prefix_len (is_in class.Name) text)

-- the length of the character whose first byte this is
abbrev pub char_length : ℕ → ℕ
char_length b = if nat_lt b 128 then 1 else (if nat_lt b 224 then 2
    else (if nat_lt b 240 then 3 else 4))

-- one character that begins no other token
unfoldable pub scan_bad : List ℕ → Scanned
scan_bad text = (kind.Bad, char_length (slice_index text 0))

-- a quote with a run of this length behind it
abbrev pub symbol_of_length : List ℕ → List ℕ → ℕ → Scanned
symbol_of_length text run n =
    if nat_lt max_name n then (kind.Long, n + 1)
    else (if bytes_eq (take n run) (codes "nil") then scan_bad text else (kind.Symbol, n + 1))

-- a quote, and the longest run behind it, which begins with a letter
unfoldable pub scan_symbol : List ℕ → Scanned
scan_symbol text =
    if is_ascii_alphabetic (slice_index text 1) then symbol_of_length text (drop 1 text)
    (prefix_len (is_in class.Symbol) (drop 1 text)) else scan_bad text

-- a byte that `=` may follow: = < !
abbrev pub begins_two : ℕ → Bool
begins_two b = b == 61 || (b == 60 || b == 33)

-- a sign of one byte: ( ) { } , ; = < + - *
abbrev pub is_single : ℕ → Bool
is_single b = b == 40 || (b == 41 || (b == 123
    || (b == 125
    || (b == 44 || (b == 59 || (b == 61 || (b == 60 || (b == 43 || (b == 45 || b == 42)))))))))

-- a sign, of two bytes where it can be, or a bad character
unfoldable pub scan_sign : List ℕ → Scanned
scan_sign text =
    if begins_two (slice_index text 0) && slice_index text 1 == 61 then (kind.Sign, 2)
    else (if is_single (slice_index text 0) then (kind.Sign, 1) else scan_bad text)

-- the longest token of a text with this first byte
abbrev pub scan_by : List ℕ → ℕ → Scanned
scan_by text b =
    if is_ascii_alphabetic b then scan_name text
    else (if is_ascii_digit b then (kind.Number, prefix_len (is_in class.Digit) text)
    else (if b == 39 then scan_symbol text
    else scan_sign text))

-- the longest token at the front of a text, or the end
unfoldable pub scan : List ℕ → Scanned
scan [] = (kind.End, 0)
scan (b ∷ bs) = scan_by (b ∷ bs) b

-- The length of the blanks, line feeds and comments at the front. The test says whether a comment
-- has begun.
abbrev pub gap : Bool → List ℕ → ℕ
gap commented [] = 0
gap commented (b ∷ bs) =
    if b == 10 then 1 + gap false bs
    else (if b == 35 then 1 + gap true bs
    else (if is_blank b then 1 + gap commented bs
    else (if commented then 1 + gap true bs else 0)))
