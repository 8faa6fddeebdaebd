-- The marks of a session file, and the parts between them: the handlers, perhaps the line
-- `%% tables` and the table part, the dividing line, and the requests.
use Rattle.std.specs.Prelude.{◌≡◌, ℕ, ◌+◌, Bool, true, ◌&&◌, ◌||◌, if◌then◌else◌, List, [], ◌∷◌, length, take, drop, codes}
use Rattle.std.specs.List.{list_all, list_any, position_or_len}
use Rattle.std.specs.Str.{bytes_eq}
use Rattle.text_lines.specs.Bytes.{is_blank}
use Rattle.text_lines.specs.Text.{Text, lines}

-- ---- marks

-- the dividing line: `%%`, and then blanks only
unfoldable pub is_dividing : Text → Bool
is_dividing l = bytes_eq (take 2 l) (codes "%%") && list_all is_blank (drop 2 l)

-- the line behind which tables stand: `%% tables`, and then blanks only
unfoldable pub is_table_mark : Text → Bool
is_table_mark l = bytes_eq (take 9 l) (codes "%% tables") && list_all is_blank (drop 9 l)

-- one of them
abbrev pub is_mark : Text → Bool
is_mark l = is_dividing l || is_table_mark l

-- ---- what stands before a line and behind it

-- how many bytes the lines before the first of these take, with their line feeds
unfoldable pub head_size : (Text → Bool) → List Text → ℕ
head_size is [] = 0
head_size is (l ∷ ls) = if is l then 0 else length l + 1 + head_size is ls

-- how many bytes they and this line take
unfoldable pub mark_size : (Text → Bool) → List Text → ℕ
mark_size is [] = 0
mark_size is (l ∷ ls) = if is l then length l + 1 else length l + 1 + mark_size is ls

-- what stands before the first of these lines: all where there is none
abbrev pub before : (Text → Bool) → Text → Text
before is text = take (head_size is (lines text)) text

-- what stands behind it: nothing where there is none
abbrev pub behind : (Text → Bool) → Text → Text
behind is text = drop (mark_size is (lines text)) text

-- the number of the line behind it
abbrev pub line_behind : (Text → Bool) → Text → ℕ
line_behind is text = position_or_len is (lines text) + 2

-- ---- parts

-- the parts of a file that has a dividing line, and the numbers of the first lines of the table
-- part and of the requests; the table part begins at the first mark before the dividing line
pub record Divides (text handlers tables requests : Text) (first_table first : ℕ) : Type 0 where
  pub marked : list_any is_dividing (lines text) ≡ true
  pub handlers_are : handlers ≡ before is_table_mark (before is_dividing text)
  pub tables_are : tables ≡ behind is_table_mark (before is_dividing text)
  pub requests_are : requests ≡ behind is_dividing text
  pub first_table_is : first_table ≡ line_behind is_table_mark (before is_dividing text)
  pub first_is : first ≡ line_behind is_dividing text
