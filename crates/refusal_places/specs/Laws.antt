-- What the definitions of lines and columns come to.
use Rattle.std.specs.Prelude.{◌≡◌, ℕ, ◌-◌, ◌<◌, ◌⊎◌, true, ◌++◌, length, get_or, take}
use Rattle.text_lines.specs.Text.{Text, is_line_byte}

-- These bytes stand right before a place of a file, and none of them is a line feed; where they
-- begin, the file begins or a line feed stands before them.
pub record IsLineFront (file : Text) (at start : ℕ) (front : Text) : Type 0 where
  pub whole : take start file ++ front ≡ take at file
  pub within : (i : ℕ) → i < length front → is_line_byte (get_or front i 0) ≡ true
  pub behind : (start ≡ 0) ⊎ (get_or file (start - 1) 0 ≡ 10)
