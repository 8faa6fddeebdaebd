-- How an audit ends. Only this crate's own functions cite it.
use Rattle.std.specs.Prelude.{ℕ, List}
use Rattle.session_journal.specs.Opening.{IsOpening}
use Rattle.handler_check.specs.Resolved.{shape_of}
use Rattle.handler_machine.specs.Scripts.{ScriptsView, meaning}
use Rattle.request_files.specs.Servable.{IsServable}
use Rattle.session_journal.specs.Verdicts.{IsVerdict}
use Rattle.session_journal.specs.declared.verdict.Verdict.{Verdict}
use Rattle.trace_lines.specs.VerdictText.{verdict_text}
use Rattle.byte_ends.specs.Changes.{Change, Failed, IsUntouched, WroteAll, WrotePrefix}
use Rattle.serve_faults.specs.declared.status.Status.{Status}
use Rattle.serve_faults.specs.declared.status.Status.TheVariants as status
use Rattle.serve_reading.specs.declared.auditing.Audited.{Audited}

-- the script of what was loaded
abbrev pub script_of_audited : Audited → ScriptsView
script_of_audited a = record {
  program = a.program;
  opening = a.opening;
  requests = a.requests;
}

-- its tables can open, and its requests can be served
pub record CanJudge (a : Audited) : Type 0 where
  pub opens : IsOpening (shape_of a.program.file) a.opening
  pub servable : IsServable a.program.file a.requests

-- what is judged of the trace that was loaded, and that its line was written, or a front of it
pub record AuditWrites {O : Type 0} (a : Audited) (out : Change O)
    (IsOut : List ℕ → Type 0) : Type 0 where
  pub verdict : Verdict
  pub is_verdict : IsVerdict (meaning (script_of_audited a)) a.trace.events verdict
  pub written : IsOut (verdict_text a.trace verdict)

-- the line was written, or a front of it where the sink failed; or memory ran out, and nothing was
abbrev pub AuditEnds : {O : Type 0} → Audited → Change O → Status → Type 0
AuditEnds a out status.Fine = AuditWrites a out (WroteAll out)
AuditEnds a out status.WriteFault = Failed out × AuditWrites a out (WrotePrefix out)
AuditEnds a out status.NoMemory = IsUntouched out
AuditEnds a out (status.Refused e) = ⊥
AuditEnds a out status.Usage = ⊥
AuditEnds a out status.ReadFault = ⊥
