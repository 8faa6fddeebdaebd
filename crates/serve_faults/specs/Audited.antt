-- A session file that ends in a trace, and what is judged of the trace.
use Rattle.std.specs.Prelude.{◌≡◌, ℕ, List, Option, Some}
use Rattle.handler_syntax.specs.Language.{File}
use Rattle.handler_check.specs.Resolved.{shape_of}
use Rattle.request_files.specs.Rows.{Row, rows}
use Rattle.request_files.specs.Text.{lines}
use Rattle.session_journal.specs.Traces.{TraceView}
use Rattle.session_journal.specs.Verdicts.{IsVerdict}
use Rattle.session_journal.specs.declared.verdict.Verdict.{Verdict}
use Rattle.trace_lines.specs.EventRows.{IsTrace, first_event_fault}
use Rattle.trace_lines.specs.declared.refusal.TraceRefusal.{TraceRefusal}
use Rattle.request_files.specs.TracePart.{before_trace, behind_trace, line_behind_trace}
use Rattle.session_journal.specs.Bare.{bare_script}
use Rattle.trace_lines.specs.VerdictText.{verdict_text}
use Rattle.serve_faults.specs.Input.{Parts, parts_of}
use Rattle.serve_faults.specs.Session.{IsSession, all_names_of, session_of_parts}
use Rattle.serve_faults.specs.Traced.{table_places}

-- the parts of the session file before the trace part
abbrev pub audited_parts : List ℕ → Parts
audited_parts input = parts_of (before_trace input)

-- the lines of the trace part that have words
abbrev pub event_rows_of : List ℕ → List Row
event_rows_of input = rows (line_behind_trace input) (lines (behind_trace input))

-- the first fault of the trace part, if there is one: tables go by the names of the session file
abbrev pub trace_fault : List ℕ → File → Option TraceRefusal
trace_fault input file = first_event_fault (all_names_of (audited_parts input))
    (table_places file) (shape_of file) 0 (event_rows_of input)

-- the session file breaks no rule, and this is the first fault of the trace part
pub record HasTraceFault (input : List ℕ) (e : TraceRefusal) : Type 0 where
  pub file : File
  pub is_session : IsSession (audited_parts input) file
  pub first : trace_fault input file ≡ Some e

-- the lines of the trace part are the events of this trace; symbols go by the names of the session
-- file and those that the trace part adds, which are these
abbrev pub IsTraceOf : List ℕ → File → List (List ℕ) → TraceView → Type 0
IsTraceOf input file names trace = IsTrace (all_names_of (audited_parts input)) names
    (table_places file) (shape_of file) (event_rows_of input) trace

-- the line that says what is judged of the trace, as the journal of the session's requests
pub record IsAudited (input text : List ℕ) : Type 0 where
  pub file : File
  pub is_session : IsSession (audited_parts input) file
  pub names : List (List ℕ)
  pub trace : TraceView
  pub is_trace : IsTraceOf input file names trace
  pub verdict : Verdict
  pub is_verdict : IsVerdict (bare_script (session_of_parts (audited_parts input) file))
      trace.events verdict
  pub text_is : text ≡ verdict_text trace verdict
