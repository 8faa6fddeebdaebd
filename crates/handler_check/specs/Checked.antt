-- Checked files.
use Rattle.std.specs.Prelude.{◌≡◌, ℕ, ◌≤◌, List, length}
use Rattle.std.specs.List.{AllZip}
use Rattle.session_values.specs.Limits.{max_calls, max_variables, max_work}
use Rattle.syntax_trees.specs.declared.file.File.{File}
use Rattle.check_meaning.specs.declared.tree.CheckedHandler.{CheckedHandler}
use Rattle.check_meaning.specs.Bounds.{calls_bound, work_bound}
use Rattle.check_meaning.specs.Code.{IsNumbered, block_code}
use Rattle.check_meaning.specs.Within.{CodeWithin}
use Rattle.syntax_trees.specs.Bounds.{KeepsBounds}
use Rattle.handler_check.specs.declared.bounds.HandlerBounds.{HandlerBounds}
use Rattle.handler_check.specs.Checking.{IsAccepted}
use Rattle.handler_check.specs.Resolved.{IsResolved, code_at, params_at, shape_of, table_names, variables_at}

-- what holds of the handler of each number, in a file that is accepted and keeps its bounds
pub record HandlerWithin (f : File) (h : ℕ) : Type 0 where
  -- the parameters are among the 32 variables that a handler may have
  pub params : params_at f h ≤ max_variables
  pub within : CodeWithin (shape_of f) max_variables (code_at f h)
  -- of these it speaks of its own alone
  pub variables : length (variables_at f h) ≤ max_variables
  pub own : CodeWithin (shape_of f) (length (variables_at f h)) (code_at f h)
  pub numbered : IsNumbered (code_at f h) 1
  pub calls : calls_bound (code_at f h) ≤ max_calls
  pub work : work_bound (code_at f h) ≤ max_work

-- the bounds of a resolved handler
pub record AreBoundsOf (c : CheckedHandler) (b : HandlerBounds) : Type 0 where
  pub calls : b.calls ≡ calls_bound (block_code c.body)
  pub work : b.work ≡ work_bound (block_code c.body)

-- the file breaks no rule and keeps its bounds
pub record IsKept (f : File) : Type 0 where
  pub accepted : IsAccepted f
  pub bounded : KeepsBounds f

-- the same of a file whose tables have these names
pub record IsAcceptedWith (f : File) (tables : List ℕ) : Type 0 where
  pub kept : IsKept f
  pub names : tables ≡ table_names f

-- the file breaks no rule and keeps its bounds, and these are its handlers and their bounds
pub record IsChecked (f : File) (handlers : List CheckedHandler)
    (bounds : List HandlerBounds) : Type 0 where
  pub accepted : IsAccepted f
  pub bounded : KeepsBounds f
  pub resolved : AllZip (IsResolved (table_names f)) f.handlers handlers
  pub counted : AllZip AreBoundsOf handlers bounds
