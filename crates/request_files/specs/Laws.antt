-- What the definitions of parts and faults come to on whole files and whole lists of rows.
use Rattle.std.specs.Prelude.{◌≡◌, ℕ, ◌+◌, ◌<◌, ◌≤◌, Bool, true, false, ◌⊎◌, List, [], ◌∷◌, ◌++◌, length, None}
use Rattle.std.specs.List.{list_all, list_any, sum_by}
use Rattle.session_values.specs.Limits.{max_requests, max_session_calls}
use Rattle.syntax_trees.specs.declared.file.File.{File}
use Rattle.handler_check.specs.Bounds.{calls_bound}
use Rattle.handler_check.specs.Resolved.{code_at, params_at}
use Rattle.request_files.specs.Divide.{is_dividing, is_table_mark}
use Rattle.request_files.specs.Requests.{first_fault, handler_of, no_requests}
use Rattle.text_lines.specs.Rows.{Row}
use Rattle.text_lines.specs.Text.{Text, lines}
use Rattle.text_lines.specs.Laws.{with_feeds}
use Rattle.text_lines.specs.Values.{is_value}

-- ---- the parts of a file

-- the head, a line that is the mark, and the tail are the text; the head is whole lines of which
-- none is the mark, and the tail's first line comes two behind its last
pub record AreHalves (is : Text → Bool) (text head tail : Text) (next : ℕ) : Type 0 where
  pub line : Text
  pub marks : is line ≡ true
  pub whole : (text ≡ head ++ line ++ 10 ∷ tail) ⊎ ((text ≡ head ++ line) × (tail ≡ []))
  pub head_lines : with_feeds (lines head) ≡ head
  pub none_before : list_any is (lines head) ≡ false
  pub number : next ≡ length (lines head) + 2

-- no line is the mark, and all of the text is the head
pub record IsUnmarked (is : Text → Bool) (text head tail : Text) : Type 0 where
  pub none : list_any is (lines text) ≡ false
  pub head_is : head ≡ text
  pub tail_is : tail ≡ []

-- what stands before the dividing line, and the requests; of that, the handlers and the table part,
-- or the handlers alone
pub record AreParts (text handlers tables requests : Text) (first_table first : ℕ) : Type 0 where
  pub front : Text
  pub divided : AreHalves is_dividing text front requests first
  pub opened : AreHalves is_table_mark front handlers tables first_table
      ⊎ IsUnmarked is_table_mark front handlers tables

-- ---- the first fault

-- the bounds on the calls of the handlers that the rows name, added up
abbrev pub calls_named : List Text → File → List Row → ℕ
calls_named names f rs = sum_by (λ (r : Row). calls_bound (code_at f (handler_of names f r.name)))
    rs

-- some rows without a fault, a row of this line behind them, and the others
pub record BeforeFault (names : List Text) (f : File) (rs : List Row) (line : ℕ) : Type 0 where
  pub front : List Row
  pub row : Row
  pub back : List Row
  pub is : rs ≡ front ++ row ∷ back
  pub line_is : row.line ≡ line
  pub fine : first_fault names f no_requests front ≡ None

-- the calls of the rows before it are within the limit, and those of the row bring them past it
pub record CallsPass (names : List Text) (f : File) (rs : List Row) (line : ℕ) : Type 0 where
  pub at : BeforeFault names f rs line
  pub before : calls_named names f at.front ≤ max_session_calls
  pub past : max_session_calls < calls_named names f (at.front ++ at.row ∷ [])

-- as many requests as there may be stand before the row
pub record IsOneTooMany (names : List Text) (f : File) (rs : List Row) (line : ℕ) : Type 0 where
  pub at : BeforeFault names f rs line
  pub count : length at.front ≡ max_requests

-- the row names a handler, and has a value for each of its parameters
pub record IsWellFormed (names : List Text) (f : File) (r : Row) : Type 0 where
  pub handler : handler_of names f r.name < length f.handlers
  pub args : params_at f (handler_of names f r.name) ≡ length r.args
  pub values : list_all is_value r.args ≡ true
