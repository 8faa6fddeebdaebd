-- What the definitions of lines and words come to on whole texts.
use Rattle.std.specs.Prelude.{◌≡◌, ℕ, ◌<◌, true, ◌⊎◌, ◌==◌, if◌then◌else◌, List, [], ◌∷◌, ◌++◌, length}
use Rattle.std.specs.List.{list_all, AllByRecursion}
use Rattle.text_lines.specs.Bytes.{is_blank}
use Rattle.text_lines.specs.Text.{Text, is_line_byte, is_word_byte}

-- ---- lines

-- the lines with a line feed behind each
abbrev pub with_feeds : List Text → Text
with_feeds [] = []
with_feeds (l ∷ ls) = l ++ 10 ∷ with_feeds ls

-- the last byte is no line feed
pub record EndsInLine (text : Text) : Type 0 where
  pub front : Text
  pub last : ℕ
  pub is : text ≡ front ++ last ∷ []
  pub no_feed : is_line_byte last ≡ true

-- no line has a line feed within, and with a line feed behind each they are the text; where its
-- last byte is none, the last line feed is one too many
pub record AreLinesOf (text : Text) (ls : List Text) : Type 0 where
  pub each : AllByRecursion (λ l. list_all is_line_byte l ≡ true) ls
  pub whole : (with_feeds ls ≡ text) ⊎ ((with_feeds ls ≡ text ++ 10 ∷ []) × EndsInLine text)

-- ---- words

-- what stands before the first `#`
abbrev pub before_comment : Text → Text
before_comment [] = []
before_comment (b ∷ bs) = if b == 35 then [] else b ∷ before_comment bs

-- each word with the gap behind it
abbrev pub with_gaps : List Text → List Text → Text
with_gaps [] gs = []
with_gaps (w ∷ ws) [] = w ++ with_gaps ws []
with_gaps (w ∷ ws) (g ∷ gs) = w ++ g ++ with_gaps ws gs

-- the gap behind each word but the last isn't empty
abbrev pub AreApart : List Text → List Text → Type 0
AreApart [] gs = Unit {0}
AreApart (w ∷ ws) [] = ws ≡ []
AreApart (w ∷ ws) (g ∷ gs) = ((ws ≡ []) ⊎ (0 < length g)) × AreApart ws gs

-- neither blanks nor a `#` stand in a word, which isn't empty, and blanks alone stand between
-- words; so they are the line before its comment
pub record AreWordsOf (line : Text) (ws : List Text) : Type 0 where
  pub first : Text
  pub gaps : List Text
  pub whole : before_comment line ≡ first ++ with_gaps ws gaps
  pub each : AllByRecursion (λ w. (0 < length w) × (list_all is_word_byte w ≡ true)) ws
  pub blanks : AllByRecursion (λ g. list_all is_blank g ≡ true) (first ∷ gaps)
  pub count : length gaps ≡ length ws
  pub apart : AreApart ws gaps
