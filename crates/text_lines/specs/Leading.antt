-- A word of a few digits in front of a line.
use Rattle.std.specs.Prelude.{◌≡◌, ℕ, ◌<◌, take, true, Option, MatchOption}
use Rattle.std.specs.List.{prefix_len}
use Rattle.std.specs.Str.{all_ascii_digits}
use Rattle.text_lines.specs.Text.{Text, is_word_byte}
use Rattle.text_lines.specs.Values.{number_from}

-- so many bytes of a word stand in front; they are digits, which say this number, of at most 18
pub record IsLeading (bytes : Text) (n k : ℕ) : Type 0 where
  pub len : k ≡ prefix_len is_word_byte bytes
  pub digits : all_ascii_digits (take k bytes) ≡ true
  pub number : n ≡ number_from 0 (take k bytes)
  pub small : n < 1000000000000000000

-- the word in front and its number, or none where it isn't one of at most 18 digits alone
abbrev pub IsLeadingIf : Text → Option (ℕ × ℕ) → Type 0
IsLeadingIf bytes r = MatchOption r ((n k : ℕ) → IsLeading bytes n k → 18 < k)
    (λ found. IsLeading bytes found.0 found.1)
