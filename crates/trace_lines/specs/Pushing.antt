-- How a trace grows by an event. Only this crate's own functions cite it.
use Rattle.std.specs.Prelude.{◌≡◌, ℕ, List, [], ◌∷◌, ◌++◌, Some}
use Rattle.session_values.specs.declared.kind.TableKind.{TableKind}
use Rattle.session_journal.specs.declared.event.Event.{Event}
use Rattle.text_lines.specs.Rows.{Row}
use Rattle.text_lines.specs.Text.{Text}
use Rattle.session_journal.specs.Traces.{TraceView}
use Rattle.trace_lines.specs.EventRows.{row_event}

-- the event of a line stands behind the others, with the line's number
pub record IsPushed (names : List Text) (tables : List ℕ) (shape : List TableKind) (r : Row)
    (old new : TraceView) : Type 0 where
  pub event : Event
  pub is : row_event names tables shape r ≡ Some event
  pub events : new.events ≡ old.events ++ event ∷ []
  pub lines : new.lines ≡ old.lines ++ r.line ∷ []
