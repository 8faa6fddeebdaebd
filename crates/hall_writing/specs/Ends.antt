-- What contracts see of a lane's ends.
use Rattle.std.specs.Prelude.{◌≡◌, ◌<◌, ℕ, List, []}
use Rattle.crossbeam_queue.specs.Passes.{view, IsPassOf}
use Rattle.session_values.specs.declared.reply.Reply.{Reply}
use Rattle.hall_writing.specs.declared.rule.EndState.{EndState}
use Rattle.hall_writing.specs.declared.lane.Lane.{Lane}
use Rattle.hall_writing.specs.declared.lane.End.{End}
use Rattle.hall_writing.specs.Lanes.{end_state}

-- what an end knows
abbrev pub state_of : End → EndState
state_of e = view e.pass

-- it is an end of this lane, stands for a caller, and knows this list
abbrev pub IsEndOf : Lane → List Reply → End → Type 0
IsEndOf l replies e = IsPassOf l.queue e.pass × (0 < (state_of e).share)
    × ((state_of e).known ≡ replies)

-- an end of a lane that was just opened for so many callers: it stands for one of them, knows the
-- list, and did nothing
pub record IsNewEnd (l : Lane) (callers : ℕ) (replies : List Reply) (e : End) : Type 0 where
  pub end : IsEndOf l replies e
  pub fresh : state_of e ≡ end_state [] [] 1 callers replies
