-- The lines of a text and the words of a line, as lists of bytes.
use Rattle.std.specs.Prelude.{ℕ, Bool, false, not, ◌||◌, ◌==◌, if◌then◌else◌, List, [], ◌∷◌}
use Rattle.text_lines.specs.Bytes.{is_blank}

-- the bytes of a text
abbrev pub Text : Type 0
Text = List ℕ

-- neither a blank nor `#`
abbrev pub is_word_byte : ℕ → Bool
is_word_byte b = not (is_blank b || b == 35)

-- no line feed
abbrev pub is_line_byte : ℕ → Bool
is_line_byte b = not (b == 10)

-- a byte put before the first of some texts
abbrev pub attach : ℕ → List Text → List Text
attach b [] = (b ∷ []) ∷ []
attach b (t ∷ ts) = (b ∷ t) ∷ ts

-- the lines of a text, without their line feeds; the last line needs no line feed
unfoldable pub lines : Text → List Text
lines [] = []
lines (b ∷ bs) = if is_line_byte b then attach b (lines bs) else [] ∷ lines bs

-- whether a word goes on here
abbrev pub in_word : Text → Bool
in_word [] = false
in_word (b ∷ bs) = is_word_byte b

-- the words of a line, up to its comment
unfoldable pub words : Text → List Text
words [] = []
words (b ∷ bs) =
    if is_word_byte b then (if in_word bs then attach b (words bs) else (b ∷ []) ∷ words bs)
    else (if is_blank b then words bs else [])
