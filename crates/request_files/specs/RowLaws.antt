-- What the faults of a row's words come to on whole lists of rows, and rows without a fault.
use Rattle.std.specs.Prelude.{◌≡◌, ◌≢◌, ℕ, ◌<◌, ◌≤◌, false, List, length, slice_get, Some}
use Rattle.std.specs.List.{AllByRecursion, Contains}
use Rattle.session_values.specs.Limits.{max_requests, max_session_calls, max_session_work}
use Rattle.syntax_trees.specs.declared.file.File.{File}
use Rattle.syntax_trees.specs.declared.file.Handler.{Handler}
use Rattle.handler_check.specs.Resolved.{params_at}
use Rattle.request_files.specs.Laws.{BeforeFault, IsWellFormed, calls_named}
use Rattle.request_files.specs.Requests.{handler_of}
use Rattle.request_files.specs.WorkSums.{work_named}
use Rattle.text_lines.specs.Rows.{Row}
use Rattle.text_lines.specs.Text.{Text}
use Rattle.text_lines.specs.Values.{is_value}

-- no handler has this text as its name
abbrev pub IsNoName : List Text → File → Text → Type 0
IsNoName names f name =
    AllByRecursion (λ (h : Handler). slice_get names h.name ≢ Some name) f.handlers

-- the row's first word is the name of no handler
pub record NamesNoHandler (names : List Text) (f : File) (rs : List Row) (line : ℕ)
    : Type 0 where
  pub at : BeforeFault names f rs line
  pub unknown : IsNoName names f at.row.name

-- the row names a handler, which has fewer or more parameters than the row has words for them
pub record HasOtherArity (names : List Text) (f : File) (r : Row) : Type 0 where
  pub handler : handler_of names f r.name < length f.handlers
  pub args : params_at f (handler_of names f r.name) ≢ length r.args

-- so it is with the first row that has a fault
pub record DiffersInArity (names : List Text) (f : File) (rs : List Row) (line : ℕ)
    : Type 0 where
  pub at : BeforeFault names f rs line
  pub other : HasOtherArity names f at.row

-- the row names a handler, and has a word for each of its parameters, of which this one is no value
pub record HasNoValue (names : List Text) (f : File) (r : Row) (word : Text) : Type 0 where
  pub handler : handler_of names f r.name < length f.handlers
  pub args : params_at f (handler_of names f r.name) ≡ length r.args
  pub among : Contains r.args word
  pub bad : is_value word ≡ false

-- so it is with the first row that has a fault
pub record HasBadWord (names : List Text) (f : File) (rs : List Row) (line : ℕ) : Type 0 where
  pub at : BeforeFault names f rs line
  pub word : Text
  pub none : HasNoValue names f at.row word

-- the rows are as few as may be, each names a handler and has a value for each of its parameters,
-- and the bounds on their calls and on their work, added up, are within the limits
pub record AreWellFormed (names : List Text) (f : File) (rs : List Row) : Type 0 where
  pub few : length rs ≤ max_requests
  pub each : AllByRecursion (IsWellFormed names f) rs
  pub calls : calls_named names f rs ≤ max_session_calls
  pub work : work_named names f rs ≤ max_session_work
