-- What the fault of too much work comes to on a whole list of rows.
use Rattle.std.specs.Prelude.{ℕ, ◌<◌, ◌≤◌, List, [], ◌∷◌, ◌++◌}
use Rattle.std.specs.List.{sum_by}
use Rattle.session_values.specs.Limits.{max_session_work}
use Rattle.syntax_trees.specs.declared.file.File.{File}
use Rattle.handler_check.specs.Bounds.{work_bound}
use Rattle.handler_check.specs.Resolved.{code_at}
use Rattle.request_files.specs.Laws.{BeforeFault}
use Rattle.request_files.specs.Requests.{handler_of}
use Rattle.text_lines.specs.Rows.{Row}
use Rattle.text_lines.specs.Text.{Text}

-- the bounds on the work of the handlers that the rows name, added up
abbrev pub work_named : List Text → File → List Row → ℕ
work_named names f rs = sum_by (λ (r : Row). work_bound (code_at f (handler_of names f r.name))) rs

-- the work of the rows before it is within the limit, and that of the row brings it past it
pub record WorkPasses (names : List Text) (f : File) (rs : List Row) (line : ℕ) : Type 0 where
  pub at : BeforeFault names f rs line
  pub before : work_named names f at.front ≤ max_session_work
  pub past : max_session_work < work_named names f (at.front ++ at.row ∷ [])
