-- What is made of a session file that ends in a trace before the trace is judged.
use Rattle.std.specs.Prelude.{◌≡◌, ℕ, List, None, Some}
use Rattle.session_values.specs.Opening.{IsOpening}
use Rattle.handler_syntax.specs.Language.{File}
use Rattle.handler_check.specs.Resolved.{shape_of}
use Rattle.request_files.specs.Servable.{IsServable}
use Rattle.request_files.specs.Rows.{Row}
use Rattle.trace_lines.specs.EventRows.{IsTrace, first_event_fault}
use Rattle.trace_lines.specs.declared.refusal.TraceRefusal.{TraceRefusal}
use Rattle.serve_faults.specs.declared.status.Fault.TheVariants as fault
use Rattle.serve_faults.specs.Answer.{HasSyntaxFault, HasCheckFault, HasAnalysisFault, HasRequestFault, HasTableFault}
use Rattle.serve_faults.specs.Audited.{audited_parts, event_rows_of}
use Rattle.serve_faults.specs.Traced.{table_places}
use Rattle.serve_faults.specs.Input.{Parts}
use Rattle.serve_faults.specs.Session.{IsSession, all_names_of, opened_of, request_fault, requests_of, table_fault}
use Rattle.serve_reading.specs.Programs.{IsProgramOf}
use Rattle.serve_reading.specs.declared.auditing.Audited.{Audited}
use Rattle.serve_reading.specs.declared.load_error.LoadError.{LoadError}
use Rattle.serve_reading.specs.declared.load_error.LoadError.TheVariants.{Refused, NoMemory}

-- what was read is the parts' session, which can be served, and some lines are the events of the
-- trace, with the names of the parts and those that the lines add, which are what was read too
pub record AreTraced (parts : Parts) (rs : List Row) (a : Audited) : Type 0 where
  pub program_of : IsProgramOf parts.handlers a.program
  pub tables_fine : table_fault parts a.program.file ≡ None
  pub fine : request_fault parts a.program.file ≡ None
  pub opening_is : a.opening ≡ opened_of parts a.program.file
  pub opens : IsOpening (shape_of a.program.file) a.opening
  pub requests_are : a.requests ≡ requests_of parts a.program.file
  pub servable : IsServable a.program.file a.requests
  pub is_trace : IsTrace (all_names_of parts) a.names (table_places a.program.file)
      (shape_of a.program.file) rs a.trace

-- so it is with the parts before a trace part, and its lines
abbrev pub IsAuditOf : List ℕ → Audited → Type 0
IsAuditOf input a = AreTraced (audited_parts input) (event_rows_of input) a

-- over the names before them and the tables of a file: memory ran out, or this is the first fault of
-- some lines
abbrev pub IsEventsReason : List (List ℕ) → File → List Row → LoadError → Type 0
IsEventsReason names file rs NoMemory = Unit {0}
IsEventsReason names file rs (Refused (fault.Trace e)) =
    first_event_fault names (table_places file) (shape_of file) 0 rs ≡ Some e
IsEventsReason names file rs (Refused e) = ⊥

-- the parts are a session's, and this is the first fault of the lines of a trace
pub record AreRefused (parts : Parts) (rs : List Row) (e : TraceRefusal) : Type 0 where
  pub file : File
  pub is_session : IsSession parts file
  pub first : first_event_fault (all_names_of parts) (table_places file) (shape_of file) 0 rs
      ≡ Some e

-- memory ran out, or this is the first fault of the parts of a session file, or of the lines of a
-- trace behind it
abbrev pub IsTracedReason : Parts → List Row → LoadError → Type 0
IsTracedReason parts rs NoMemory = Unit {0}
IsTracedReason parts rs (Refused (fault.Syntax e)) = HasSyntaxFault parts.handlers e
IsTracedReason parts rs (Refused (fault.Check e)) = HasCheckFault parts.handlers e
IsTracedReason parts rs (Refused (fault.Analysis e)) = HasAnalysisFault parts.handlers e
IsTracedReason parts rs (Refused (fault.Tables e)) = HasTableFault parts e
IsTracedReason parts rs (Refused (fault.Request e)) = HasRequestFault parts e
IsTracedReason parts rs (Refused (fault.Trace e)) = AreRefused parts rs e
IsTracedReason parts rs (Refused e) = ⊥
