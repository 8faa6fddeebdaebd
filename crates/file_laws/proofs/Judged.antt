-- Where `audit` accepts, the trace is that of the serial run.
use Rattle.std.proofs.Common.{◌≡◌, ℕ, ◌≤◌, List, [], ◌∷◌, length, ap, arith}
use Rattle.session_journal.specs.declared.event.Event.{Event}
use Rattle.session_journal.specs.Script.{Meaning, IsScript}
use Rattle.handler_machine.specs.Scripts.{ScriptsView, meaning}
use Rattle.handler_syntax.specs.Language.{File}
use Rattle.text_lines.specs.Text.{Text}
use Rattle.request_files.specs.TracePart.{before_trace}
use Rattle.serve_faults.specs.Command.TheVariants.{Audit}
use Rattle.session_journal.specs.Accepted.{Accepted}
use Rattle.session_journal.specs.Bare.{bare_script}
use Rattle.session_journal.specs.Traces.{TraceView}
use Rattle.session_journal.specs.Verdicts.{IsVerdict}
use Rattle.session_journal.specs.declared.verdict.Verdict.{Verdict}
use Rattle.session_journal.specs.declared.verdict.Verdict.TheVariants.{Accepted as IsFine, Event as AtEvent, Ticket as AtTicket}
use Rattle.session_journal.proofs.Bare.{accepted_back}
use Rattle.session_journal.proofs.TraceSerial.{same_entries, same_answer}
use Rattle.serve_faults.specs.VerdictText.{accepted, verdict_text}
use Rattle.serve_faults.specs.Audited.{IsAudited, audited_parts}
use Rattle.serve_faults.specs.Input.{IsInput, Parts}
use Rattle.serve_faults.specs.Session.{IsSession, session_of_parts}
use Rattle.file_laws.proofs.Sessions.{lawful, view}
use Rattle.file_laws.proofs.ShortParts.{AreShort, are_short}
use Rattle.file_laws.specs.Judged.{AreSerial, IsSerialTrace}

abbrev first_of : Text → ℕ
first_of [] = 0
first_of (b ∷ bs) = b

-- a line that begins with `accepted` is that of no other verdict
fine : (trace : TraceView) (n : ℕ) (v : Verdict) (m : Meaning) → accepted n ≡ verdict_text trace v → IsVerdict m trace.events v → Accepted m trace.events
fine trace n IsFine m e v = v
fine trace n (AtEvent rule at) m e v = let x : 97 ≡ 114 = ap first_of e in absurd (omega (arith, x))
fine trace n (AtTicket rule t) m e v = let x : 97 ≡ 114 = ap first_of e in absurd (omega (arith, x))

module _ (input : Text) (short : length (before_trace input) ≤ 4194304) (file : File) (is : IsSession (audited_parts input) file) (J : List Event)
    (a : Accepted (bare_script (session_of_parts (audited_parts input) file)) J) where
  abbrev parts : Parts
  parts = audited_parts input

  few : AreShort parts
  few = are_short (before_trace input) short

  abbrev whole : ScriptsView
  whole = view parts file is few.handlers few.tables few.requests

  script : IsScript (meaning whole)
  script = lawful parts file is few.handlers few.tables few.requests

  of_script : Accepted (meaning whole) J
  of_script = accepted_back (meaning whole) J a

  pub serial_are : AreSerial (session_of_parts parts file) J
  serial_are = record {
    entries_are = λ t l. same_entries (meaning whole) J script of_script t l;
    answers_are = λ t l. same_answer (meaning whole) J script of_script t l;
  }

pub judged : (input : Text) (n : ℕ) → IsInput Audit input → IsAudited input (accepted n) → IsSerialTrace input
judged input n i a = record {
  file = a.file;
  is_session = a.is_session;
  names = a.names;
  trace = a.trace;
  is_trace = a.is_trace;
  serial_are = serial_are input i.short.1 a.file a.is_session a.trace.events (fine a.trace n a.verdict (bare_script (session_of_parts (audited_parts input) a.file)) a.text_is a.is_verdict);
}
