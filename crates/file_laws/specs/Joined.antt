-- A session file with the text of its trace behind it.
use Rattle.std.specs.Prelude.{◌≡◌, ℕ, ◌≤◌, List, ◌++◌, length, map, None, Some}
use Rattle.session_values.specs.Limits.{max_input}
use Rattle.session_journal.specs.declared.event.Event.{Event}
use Rattle.text_lines.specs.Laws.{with_feeds}
use Rattle.text_lines.specs.Rows.{rows}
use Rattle.text_lines.specs.Text.{Text, lines}
use Rattle.handler_syntax.specs.Language.{File}
use Rattle.handler_check.specs.Resolved.{shape_of}
use Rattle.serve_faults.specs.Accepted.{Accepted}
use Rattle.serve_faults.specs.Bare.{bare_script}
use Rattle.serve_faults.specs.Traces.{TraceView}
use Rattle.serve_faults.specs.EventRows.{IsTrace, first_event_fault}
use Rattle.serve_faults.specs.EventText.{head_text}
use Rattle.serve_faults.specs.EventWords.{as_read}
use Rattle.serve_faults.specs.VerdictText.{accepted as accepted_line}
use Rattle.serve_faults.specs.Command.TheVariants.{Audit}
use Rattle.serve_faults.specs.Answer.{CommandAnswers, Text as Told}
use Rattle.serve_faults.specs.Input.{max_audit_input, parts_of}
use Rattle.serve_faults.specs.Session.{IsSession, all_names_of, session_of_parts}
use Rattle.serve_faults.specs.Traced.{table_places, traced_text}

-- each line of the session file with its line feed, where its last line has none too, and the text
-- behind them
abbrev pub joined : Text → Text → Text
joined input text = with_feeds (lines input) ++ text

-- the file has no more bytes than one that ends in a trace may have, and no more than a session file
-- may have stand before the text
pub record MeetsLimits (input text : Text) : Type 0 where
  pub short : length (joined input text) ≤ max_audit_input
  pub front : length (with_feeds (lines input)) ≤ max_input

-- the events accepted for the session, as `audit` finds them in some lines: with Any for each argument
-- that was written as `any`
pub record AreReadBack (input : Text) (file : File) (told : Text) (events : List Event)
    : Type 0 where
  -- the lines have no fault, whatever the number of the first
  pub fine : (n : ℕ) → first_event_fault (all_names_of (parts_of input)) (table_places file)
      (shape_of file) 0 (rows n (lines told)) ≡ None
  -- and whatever is read of them is this
  pub read : (n : ℕ) (names : List Text) (trace : TraceView) → IsTrace
      (all_names_of (parts_of input)) names (table_places file) (shape_of file)
      (rows n (lines told)) trace
      → trace.events ≡ map (as_read (all_names_of (parts_of input))) events
  -- which is accepted too
  pub accepted : Accepted (bare_script (session_of_parts (parts_of input) file))
      (map (as_read (all_names_of (parts_of input))) events)

-- The text is that of events which are accepted for the session file, and read back from the lines
-- behind its first; and `audit` accepts them where they stand behind the file.
pub record IsAcceptedTrace (input text : Text) : Type 0 where
  pub file : File
  pub is_session : IsSession (parts_of input) file
  pub events : List Event
  pub accepted : Accepted (bare_script (session_of_parts (parts_of input) file)) events
  pub text_is : text ≡ traced_text (parts_of input) file events
  pub told : Text
  pub behind : text ≡ head_text ++ told
  pub read : AreReadBack input file told events
  pub audited : MeetsLimits input text → CommandAnswers (Some Audit) (joined input text)
      (Told (accepted_line (length events)))
