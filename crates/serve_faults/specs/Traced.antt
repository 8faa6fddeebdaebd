-- The text of a trace: events that are accepted for a session, with the session's names.
use Rattle.std.specs.Prelude.{◌≡◌, ℕ, List, map}
use Rattle.std.specs.List.{AllByRecursion}
use Rattle.session_journal.specs.declared.event.Event.{Event}
use Rattle.handler_check.specs.TableDecl.{TableDecl}
use Rattle.handler_syntax.specs.Language.{File}
use Rattle.handler_check.specs.Resolved.{shape_of}
use Rattle.session_journal.specs.Accepted.{Accepted}
use Rattle.session_journal.specs.Bare.{bare_script}
use Rattle.trace_lines.specs.EventText.{CanWrite, trace_text}
use Rattle.trace_lines.specs.EventWords.{IsReadableEvent}
use Rattle.serve_faults.specs.Input.{Parts, parts_of}
use Rattle.serve_faults.specs.Session.{IsSession, all_names_of, session_of_parts}

-- the places of the tables' names
abbrev pub table_places : File → List ℕ
table_places file = map (λ (t : TableDecl). t.name) file.tables

-- the line of each event can be written with these names, and reads back
pub record CanBeTold (names : List (List ℕ)) (file : File) (events : List Event) : Type 0 where
  pub readable : AllByRecursion (IsReadableEvent names (table_places file) (shape_of file)) events
  pub writable : AllByRecursion (CanWrite names (table_places file)) events

-- events as text, with the names of all parts
abbrev pub traced_text : Parts → File → List Event → List ℕ
traced_text parts file events = trace_text (all_names_of parts) (table_places file) events

-- The text of a list of events that is accepted for the session of the input. The input doesn't say
-- which.
pub record IsTraced (input text : List ℕ) : Type 0 where
  pub file : File
  pub is_session : IsSession (parts_of input) file
  pub events : List Event
  pub accepted : Accepted (bare_script (session_of_parts (parts_of input) file)) events
  pub told : CanBeTold (all_names_of (parts_of input)) file events
  pub text_is : text ≡ traced_text (parts_of input) file events
