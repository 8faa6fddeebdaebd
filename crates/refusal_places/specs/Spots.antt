-- Lines and columns: where a byte of a file stands, and what its line holds.
use Rattle.std.specs.Prelude.{ℕ, ◌+◌, ◌-◌, Bool, ◌||◌, ◌==◌, nat_eq, nat_le, nat_lt, if◌then◌else◌, [], length, map, reverse, take, drop, slice_get, Option, Some, None}
use Rattle.std.specs.List.{count_by, filter, prefix_len}
use denote.Ref.{Bor}
use Rattle.text_lines.specs.Text.{Text, is_line_byte, lines}
use Rattle.refusal_places.specs.declared.spot.Spot.{Spot as Found}

-- a line of a file: its number from 1, what stands in it before the place, and its whole text
-- without its line feed
pub record Spot : Type 0 where
  pub line : ℕ
  pub front : Text
  pub text : Text

abbrev pub spot : ℕ → Text → Text → Spot
spot line front text = record { line = line; front = front; text = text }

-- a line feed
abbrev pub is_feed : ℕ → Bool
is_feed b = b == 10

-- how many bytes of a line stand at the end of these
abbrev pub tail_len : Text → ℕ
tail_len bytes = prefix_len is_line_byte (reverse bytes)

-- where the line of a byte begins: behind the last line feed before it
abbrev pub start_of : Text → ℕ → ℕ
start_of file at = at - tail_len (take at file)

-- the line that begins at the front of these bytes
abbrev pub line_of : Text → Text
line_of bytes = take (prefix_len is_line_byte bytes) bytes

-- the line of a byte: its number is 1 and the line feeds before the byte
abbrev pub spot_at : Text → ℕ → Spot
spot_at file at = spot (1 + count_by is_feed (take at file))
    (drop (start_of file at) (take at file)) (line_of (drop (start_of file at) file))

-- the line of a byte, where the file has that many bytes before it
abbrev pub byte_spot : Text → ℕ → Option Spot
byte_spot file at = if nat_le at (length file) then Some (spot_at file at) else None

-- the line with this number, where it is there
abbrev pub line_by : ℕ → Option Text → Option Spot
line_by n None = None
line_by n (Some text) = Some (spot n [] text)

-- the line with this number from 1, as the lines of a text are counted
abbrev pub line_spot : Text → ℕ → Option Spot
line_spot file n = if nat_eq n 0 then None else line_by n (slice_get (lines file) (n - 1))

-- the first byte of a character: UTF-8 has the others from 128 to 191
abbrev pub begins_character : ℕ → Bool
begins_character b = nat_lt b 128 || nat_le 192 b

-- columns count characters from 1
abbrev pub column_of : Text → ℕ
column_of front = 1 + count_by begins_character front

-- a tab for a tab, else a space
abbrev pub blank_for : ℕ → ℕ
blank_for b = if b == 9 then 9 else 32

-- what stands before the caret: a blank for each character before the place
abbrev pub indent_of : Text → Text
indent_of front = map blank_for (filter begins_character front)

-- ---- what the code finds

-- what a spot of the code holds
abbrev pub spot_of : Found → Spot
spot_of s = spot s.line s.front.now s.text.now

-- the same, if there is one
abbrev pub spot_option : Option Found → Option Spot
spot_option None = None
spot_option (Some s) = Some (spot_of s)

-- what a text of the code holds, if there is one
abbrev pub text_option : Option (Bor Text) → Option Text
text_option None = None
text_option (Some t) = Some t.now
