-- What it says of a session file that `audit` accepts its trace.
use Rattle.std.specs.Prelude.{◌≡◌, ℕ, ◌<◌, List}
use Rattle.session_values.specs.Serial.{Session, serial}
use Rattle.session_journal.specs.declared.event.Event.{Event}
use Rattle.session_journal.specs.Journal.{ended, entries}
use Rattle.text_lines.specs.Text.{Text}
use Rattle.handler_syntax.specs.Language.{File}
use Rattle.session_journal.specs.Traces.{TraceView}
use Rattle.serve_faults.specs.Audited.{IsTraceOf, audited_parts}
use Rattle.serve_faults.specs.Session.{IsSession, session_of_parts}

-- each ticket's entries and its Reply are those of serving the tickets one at a time
pub record AreSerial (s : Session) (J : List Event) : Type 0 where
  pub entries_are : (t : ℕ) → t < s.requests → entries J t ≡ (serial s t).entries
  pub answers_are : (t : ℕ) → t < s.requests → ended J t ≡ (serial s t).answer

-- the events of the trace part are those of serving the session's requests one at a time
pub record IsSerialTrace (input : Text) : Type 0 where
  pub file : File
  pub is_session : IsSession (audited_parts input) file
  pub names : List Text
  pub trace : TraceView
  pub is_trace : IsTraceOf input file names trace
  pub serial_are : AreSerial (session_of_parts (audited_parts input) file) trace.events
