-- The hall of a round. Only this crate's own functions cite this.
use Rattle.std.specs.Prelude.{◌≡◌, ℕ, List, Option, MatchOption}
use Rattle.session_values.specs.Opening.{Pair}
use Rattle.session_hall.specs.Closings.{ClosedView, IsDone}
use Rattle.handler_check.specs.Resolved.{shape_of}
use Rattle.declaration_insertion.specs.Program.{ProgramView}
use Rattle.request_files.specs.declared.request.Request.{Request}
use Rattle.handler_machine.specs.Scripts.{meaning}
use Rattle.client_feed.specs.Reopening.{Reopens}

-- a hall that served these requests, over tables that open with these entries
pub record IsServedOver (p : ProgramView) (opening : List (List Pair)) (requests : List Request)
    (callers shards : ℕ) (d : ClosedView) : Type 0 where
  pub done : IsDone (meaning (record { program = p; opening = opening; requests = requests })) d
  pub callers_are : d.callers ≡ callers
  pub shards_are : d.shards ≡ shards

-- the same, where the tables opened as the hall of the round before left them, or in the first round
-- with these entries
pub record IsServedBehind (p : ProgramView) (opened : List (List Pair)) (last : Option ClosedView)
    (requests : List Request) (callers shards : ℕ) (d : ClosedView) : Type 0 where
  pub opening : List (List Pair)
  pub opens : MatchOption last (opening ≡ opened) (λ b. Reopens b (shape_of p.file) opening)
  pub served : IsServedOver p opening requests callers shards d
