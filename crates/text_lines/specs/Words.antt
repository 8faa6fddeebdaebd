-- Words on a line, and lines of words, as they are written.
use Rattle.std.specs.Prelude.{◌≡◌, ℕ, ◌<◌, List, [], ◌∷◌, ◌++◌, length, true}
use Rattle.std.specs.List.{list_all}
use Rattle.text_lines.specs.Text.{is_line_byte, is_word_byte}

-- it has a byte, and each of its bytes is one of a word and no line feed
pub record IsWord (w : List ℕ) : Type 0 where
  pub some : 0 < length w
  pub all : list_all is_word_byte w ≡ true
  pub line : list_all is_line_byte w ≡ true

-- some words, a space before each
abbrev pub after_spaces : List (List ℕ) → List ℕ
after_spaces [] = []
after_spaces (w ∷ ws) = 32 ∷ w ++ after_spaces ws

-- the words of a line, a space between two
abbrev pub spaced : List (List ℕ) → List ℕ
spaced [] = []
spaced (w ∷ ws) = w ++ after_spaces ws

-- the text of lines with these words
abbrev pub rows_text : List (List (List ℕ)) → List ℕ
rows_text [] = []
rows_text (ws ∷ wss) = spaced ws ++ 10 ∷ rows_text wss
