-- What an audit answers, from what was loaded and judged.
use Rattle.std.proofs.Common.{◌≡◌, ℕ, List, refl, subst}
use Rattle.handler_machine.specs.Scripts.{meaning}
use Rattle.request_files.specs.Session.{session}
use Rattle.session_journal.specs.Script.{session_of}
use Rattle.session_values.specs.Serial.{Session}
use Rattle.session_journal.specs.Bare.{bare_script}
use Rattle.session_journal.specs.Verdicts.{IsVerdict}
use Rattle.session_journal.specs.declared.verdict.Verdict.{Verdict}
use Rattle.session_journal.proofs.Bare.{verdict as bare_verdict}
use Rattle.trace_lines.specs.VerdictText.{verdict_text}
use Rattle.serve_faults.specs.Command.TheVariants.{Audit}
use Rattle.serve_faults.specs.declared.status.Status.{Status}
use Rattle.serve_faults.specs.declared.status.Status.TheVariants as status
use Rattle.serve_faults.specs.Audited.{IsAudited, audited_parts}
use Rattle.byte_ends.specs.Changes.{Change, Failed, WroteAll, WrotePrefix}
use Rattle.serve_faults.specs.Input.{IsInput}
use Rattle.serve_faults.specs.Session.{session_of_parts}
use Rattle.serve_reading.specs.Audits.{IsAuditOf}
use Rattle.serve_reading.specs.declared.auditing.Audited.{Audited}
use Rattle.serve_reading.proofs.Loading.{as_program}
use Rattle.serve_single.specs.Auditing.{AuditEnds, CanJudge, script_of_audited}
use Rattle.serve_single.specs.Runs.{AnswersSingle}
use Rattle.serve_single.proofs.EndLemmas.{audited_to, memory_to}

-- the line of a verdict was written, or a front of it
module _ {O : Type 0} (a : Audited) (out : Change O) (v : Verdict) (line : List ℕ) (w : IsVerdict (meaning (script_of_audited a)) a.trace.events v) (is : line ≡ verdict_text a.trace v) where
  pub verdict_written : WroteAll out line → AuditEnds a out status.Fine
  verdict_written took = record { verdict = v; is_verdict = w; written = subst (WroteAll out) is took }

  pub verdict_front : Failed out → WrotePrefix out line → AuditEnds a out status.WriteFault
  verdict_front failed took = (failed, record { verdict = v; is_verdict = w; written = subst (WrotePrefix out) is took })

pub can_judge : (input : List ℕ) (a : Audited) → IsAuditOf input a → CanJudge a
can_judge input a h = record { opens = h.opens; servable = h.servable }

-- the session of what was loaded is the file's
session_same : (input : List ℕ) (a : Audited) → IsAuditOf input a → session_of (meaning (script_of_audited a)) ≡ session_of_parts (audited_parts input) a.program.file
session_same input a h = λ i. session a.program.file (h.opening_is i) (h.requests_are i)

is_audited : (input : List ℕ) (a : Audited) (v : Verdict) → IsAuditOf input a → IsVerdict (meaning (script_of_audited a)) a.trace.events v → IsAudited input (verdict_text a.trace v)
is_audited input a v h w = record {
  file = a.program.file;
  is_session = record { program = as_program (audited_parts input).handlers a.program h.program_of; tables = h.tables_fine; requests = h.fine };
  names = a.names;
  trace = a.trace;
  is_trace = h.is_trace;
  verdict = v;
  is_verdict = subst (λ (s : Session). IsVerdict (bare_script s) a.trace.events v) (session_same input a h) (bare_verdict (meaning (script_of_audited a)) a.trace.events v w);
  text_is = refl;
}

pub judged_to : {O : Type 0} (input : List ℕ) (out : Change O) (a : Audited) (s : Status) → IsInput Audit input → IsAuditOf input a → AuditEnds a out s → AnswersSingle Audit input out s
judged_to input out a status.Fine i h e = audited_to input out (verdict_text a.trace e.verdict) status.Fine i (is_audited input a e.verdict h e.is_verdict) e.written
judged_to input out a status.WriteFault i h e = audited_to input out (verdict_text a.trace e.1.verdict) status.WriteFault i (is_audited input a e.1.verdict h e.1.is_verdict) (e.0, e.1.written)
judged_to input out a status.NoMemory i h e = memory_to Audit input out e
judged_to input out a (status.Refused f) i h e = absurd e
judged_to input out a status.Usage i h e = absurd e
judged_to input out a status.ReadFault i h e = absurd e
