-- Requests that a checked file can serve, within the limits on all of them together.
use Rattle.std.specs.Prelude.{◌≡◌, ℕ, ◌<◌, ◌≤◌, List, length}
use Rattle.std.specs.List.{AllByRecursion, sum_by}
use Rattle.session_values.specs.Limits.{max_requests, max_session_calls, max_session_work}
use Rattle.session_values.specs.Values.{IsValue}
use Rattle.syntax_trees.specs.declared.file.File.{File}
use Rattle.handler_check.specs.Bounds.{calls_bound, work_bound}
use Rattle.handler_check.specs.Resolved.{code_at, params_at}
use Rattle.request_files.specs.declared.request.Request.{Request}

-- its handler exists, its arguments are as many as the handler's parameters, and a program can hold
-- each
pub record IsRequestOf (f : File) (r : Request) : Type 0 where
  pub handler : r.handler < length f.handlers
  pub args : length r.args ≡ params_at f r.handler
  pub values : AllByRecursion IsValue r.args

-- the bounds on the calls of some requests' handlers, added up
abbrev pub calls_in_all : File → List Request → ℕ
calls_in_all f requests = sum_by (λ (r : Request). calls_bound (code_at f r.handler)) requests

-- the bounds on the work of the requests' handlers, added up
abbrev pub work_in_all : File → List Request → ℕ
work_in_all f requests = sum_by (λ (r : Request). work_bound (code_at f r.handler)) requests

-- the requests are few enough, each is a request of one of the file's handlers, and the bounds on
-- their calls and on their work, added up, are within the limits
pub record IsServable (f : File) (requests : List Request) : Type 0 where
  pub few : length requests ≤ max_requests
  pub each : AllByRecursion (IsRequestOf f) requests
  pub calls : calls_in_all f requests ≤ max_session_calls
  pub work : work_in_all f requests ≤ max_session_work
