-- What a command answers to a session file, from what was loaded of it and served.
use Rattle.std.proofs.Common.{◌≡◌, ℕ, Bool, true, false, List, refl, sym, ◌∙◌, ap, subst}
use Rattle.session_values.specs.Serial.{Session}
use Rattle.session_journal.specs.Script.{session_of}
use Rattle.handler_machine.specs.Scripts.{meaning}
use Rattle.request_files.specs.Session.{session}
use Rattle.serve_faults.specs.Command.TheVariants.{Serve, Dump}
use Rattle.serve_faults.specs.declared.status.Status.{Status}
use Rattle.byte_ends.specs.Changes.{Change, IsUntouched}
use Rattle.serve_faults.specs.Input.{Parts, parts_of}
use Rattle.serve_faults.specs.Session.{IsSession, all_names_of, session_of_parts}
use Rattle.serve_reading.specs.Reasons.{IsInputReason}
use Rattle.serve_reading.specs.Sessions.{IsLoaded, IsSessionInput}
use Rattle.serve_reading.specs.declared.session.Loaded.{Loaded}
use Rattle.serve_reading.specs.declared.load_error.LoadError.{LoadError}
use Rattle.serve_reading.proofs.Loading.{as_program}
use Rattle.serve_single.specs.Runs.{AnswersSingle}
use Rattle.serve_single.specs.Serving.{EndsOrWants, asked_text, script_of_loaded, serving, status_of}
use Rattle.serve_single.proofs.EndLemmas.{ends_or_wants_to, input_reason, reason_to, session_input}

-- ---- what was loaded
module _ (parts : Parts) (l : Loaded) (h : IsLoaded parts l) where
  is_session : IsSession parts l.program.file
  is_session = record { program = as_program parts.handlers l.program h.program_of; tables = h.tables_fine; requests = h.fine }

  abbrev served : Session
  served = session_of (meaning (script_of_loaded l))

  session_same : served ≡ session_of_parts parts l.program.file
  session_same = λ i. session l.program.file (h.opening_is i) (h.requests_are i)

  -- the text is the file's
  text_same : (tables : Bool) → asked_text tables l.names l.program.file served ≡ asked_text tables (all_names_of parts) l.program.file (session_of_parts parts l.program.file)
  text_same tables =
      ap (λ (ns : List (List ℕ)). asked_text tables ns l.program.file served) h.names_are
      ∙ ap (asked_text tables (all_names_of parts) l.program.file) session_same

module _ {O : Type 0} (callers shards : ℕ) (bytes : List ℕ) (out : Change O) where
  -- what becomes of what was loaded is what the command answers
  pub loaded_alone : (tables : Bool) (l : Loaded) (s : Status) → IsSessionInput bytes → IsLoaded (parts_of bytes) l → EndsOrWants (asked_text tables l.names l.program.file (session_of (meaning (script_of_loaded l)))) out s
      → AnswersSingle (serving tables callers shards) bytes out s
  loaded_alone true l s i h e =
      ends_or_wants_to (Dump callers shards) bytes out (asked_text true l.names l.program.file (session_of (meaning (script_of_loaded l)))) (session_input (Dump callers shards) bytes refl i)
      (record { file = l.program.file; is_session = is_session (parts_of bytes) l h; text_is = text_same (parts_of bytes) l h true }) s e
  loaded_alone false l s i h e =
      ends_or_wants_to (Serve callers shards) bytes out (asked_text false l.names l.program.file (session_of (meaning (script_of_loaded l)))) (session_input (Serve callers shards) bytes refl i)
      (record { file = l.program.file; is_session = is_session (parts_of bytes) l h; text_is = text_same (parts_of bytes) l h false }) s e

  -- where nothing was loaded, this is why
  pub unloaded_alone : (tables : Bool) (e : LoadError) (s : Status) → s ≡ status_of e → IsInputReason bytes e → IsUntouched out → AnswersSingle (serving tables callers shards) bytes out s
  unloaded_alone tables e s is r same = subst (λ (s : Status). AnswersSingle (serving tables callers shards) bytes out s) (sym is) (by tables)
    where
      by : (tables : Bool) → AnswersSingle (serving tables callers shards) bytes out (status_of e)
      by true = reason_to (Dump callers shards) bytes out same e (input_reason (Dump callers shards) bytes e refl r)
      by false = reason_to (Serve callers shards) bytes out same e (input_reason (Serve callers shards) bytes e refl r)
