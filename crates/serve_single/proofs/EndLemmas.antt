-- What a command answers to its input, from what its parts say.
use Rattle.std.proofs.Common.{◌≡◌, ℕ, ◌≤◌, Bool, true, false, if◌then◌else◌, List, length, Some, refl, sym, ap, ◌∙◌, subst}
use Rattle.session_values.specs.Limits.{max_input}
use Rattle.serve_faults.specs.Command.{Command}
use Rattle.serve_faults.specs.Command.TheVariants.{Check, Show, Serve, Dump, Work, Ranges, Trace, Audit, Clients}
use Rattle.serve_faults.specs.declared.status.Fault.{Fault}
use Rattle.serve_faults.specs.declared.status.Fault.TheVariants as fault
use Rattle.serve_faults.specs.declared.status.Status.{Status}
use Rattle.serve_faults.specs.declared.status.Status.TheVariants as status
use Rattle.serve_faults.specs.Commands.{has_handlers, has_requests, input_of, is_gathering, is_serving}
use Rattle.serve_faults.specs.Input.{Parts, parts_by, parts_of, parts_fault, divided_fault, handlers_of, is_divided, parts_in, IsInput, IsShort}
use Rattle.serve_faults.specs.Answer.{CommandAnswers, HasRequestFault, HasTableFault, IsRefused, IsTextOf}
use Rattle.serve_faults.specs.Answer as answer
use Rattle.byte_ends.specs.Changes.{Change, IsUntouched}
use Rattle.serve_faults.specs.Ways.{describing}
use Rattle.serve_reading.specs.declared.load_error.LoadError.{LoadError}
use Rattle.serve_reading.specs.declared.load_error.LoadError.TheVariants.{Refused, NoMemory}
use Rattle.serve_reading.specs.Reasons.{IsInputReason, IsReason, IsSessionReason}
use Rattle.serve_reading.specs.Sessions.{IsSessionInput}
use Rattle.serve_single.specs.Runs.{AnswersSingle, EndsUnanswered}
use Rattle.serve_single.specs.Serving.{EndsBy, EndsOrWants, status_of}
use Rattle.serve_single.proofs.RunLemmas.{refused_answer, no_answer, fine_answer, front_answer}

-- ---- a command that refuses, or wants memory
module _ {O : Type 0} (c : Command) (bytes : List ℕ) (out : Change O) (same : IsUntouched out) where
  refused_to : (f : Fault) → IsRefused c (input_of c bytes) f → AnswersSingle c bytes out (status.Refused f)
  refused_to f r = record {
    usage = λ e. cc;
    read_fault = λ e. cc;
    answered = refused_answer c bytes out f r;
    written = record { write_fault = λ e. absurd (cc); written_well = λ e. absurd (cc); unwritten = λ _ _. same };
  }

  pub memory_to : AnswersSingle c bytes out status.NoMemory
  memory_to = record {
    usage = λ e. cc;
    read_fault = λ e. cc;
    answered = no_answer c bytes out status.NoMemory (λ e. cc) (λ f e. cc) (λ e. cc);
    written = record { write_fault = λ e. absurd (cc); written_well = λ e. absurd (cc); unwritten = λ _ _. same };
  }

  pub reason_to : (e : LoadError) → IsReason c (input_of c bytes) e → AnswersSingle c bytes out (status_of e)
  reason_to NoMemory h = memory_to
  reason_to (Refused f) h = refused_to f h

-- ---- a command that writes its text
module _ {O : Type 0} (c : Command) (bytes : List ℕ) (out : Change O) (text : List ℕ) (i : IsInput c (input_of c bytes)) (is : IsTextOf c (input_of c bytes) text) where
  pub ends_to : (s : Status) → EndsBy text out s → AnswersSingle c bytes out s
  ends_to status.Fine e = record {
    usage = λ x. cc;
    read_fault = λ x. cc;
    answered = fine_answer c bytes out text i is e;
    written = record { write_fault = λ x. absurd (cc); written_well = λ _. e.0; unwritten = λ f _. absurd (f refl) };
  }
  ends_to status.WriteFault e = record {
    usage = λ x. cc;
    read_fault = λ x. cc;
    answered = front_answer c bytes out text i is e.1;
    written = record { write_fault = λ x. e.0; written_well = λ x. absurd (cc); unwritten = λ _ f. absurd (f refl) };
  }
  ends_to (status.Refused f) e = absurd e
  ends_to status.Usage e = absurd e
  ends_to status.NoMemory e = absurd e
  ends_to status.ReadFault e = absurd e

  -- or wants memory for it
  pub ends_or_wants_to : (s : Status) → EndsOrWants text out s → AnswersSingle c bytes out s
  ends_or_wants_to status.Fine e = ends_to status.Fine e
  ends_or_wants_to status.WriteFault e = ends_to status.WriteFault e
  ends_or_wants_to status.NoMemory e = memory_to c bytes out e
  ends_or_wants_to (status.Refused f) e = absurd e
  ends_or_wants_to status.Usage e = absurd e
  ends_or_wants_to status.ReadFault e = absurd e

pub ends_or_wants : {O : Type 0} (text : List ℕ) (out : Change O) (s : Status) → EndsBy text out s → EndsOrWants text out s
ends_or_wants text out status.Fine e = e
ends_or_wants text out status.WriteFault e = e
ends_or_wants text out status.NoMemory e = absurd e
ends_or_wants text out (status.Refused f) e = absurd e
ends_or_wants text out status.Usage e = absurd e
ends_or_wants text out status.ReadFault e = absurd e

-- ---- describing
describing_own : (shown : Bool) (bytes : List ℕ) → bytes ≡ input_of (describing shown) bytes
describing_own true bytes = refl
describing_own false bytes = refl

module _ {O : Type 0} (shown : Bool) (bytes : List ℕ) (out : Change O) where
  pub described_to : (text : List ℕ) (s : Status) → IsInput (describing shown) bytes → IsTextOf (describing shown) bytes text → EndsOrWants text out s → AnswersSingle (describing shown) bytes out s
  described_to text s i is e =
      ends_or_wants_to (describing shown) bytes out text (subst (IsInput (describing shown)) (describing_own shown bytes) i) (subst (λ (b : List ℕ). IsTextOf (describing shown) b text) (describing_own shown bytes) is) s e

  pub undescribed_to : (e : LoadError) → IsUntouched out → IsReason (describing shown) bytes e → AnswersSingle (describing shown) bytes out (status_of e)
  undescribed_to e same r = reason_to (describing shown) bytes out same e (subst (λ (b : List ℕ). IsReason (describing shown) b e) (describing_own shown bytes) r)

-- ---- serving

-- the requests of the input are served as one list
abbrev pub serves_one : Command → Bool
serves_one c = if is_gathering c then false else is_serving c

handlers_same : (c : Command) (input : List ℕ) → serves_one c ≡ true → handlers_of c input ≡ (parts_of input).handlers
handlers_same Check input e = absurd (cc)
handlers_same Show input e = absurd (cc)
handlers_same (Serve callers shards) input e = refl
handlers_same (Dump callers shards) input e = refl
handlers_same (Work requests start) input e = refl
handlers_same Ranges input e = absurd (cc)
handlers_same (Trace callers shards) input e = refl
handlers_same Audit input e = absurd (cc)
handlers_same (Clients callers shards) input e = absurd (cc)

parts_wanted : (c : Command) (input : List ℕ) → serves_one c ≡ true → parts_fault c input ≡ divided_fault (is_divided input)
parts_wanted Check input e = absurd (cc)
parts_wanted Show input e = absurd (cc)
parts_wanted (Serve callers shards) input e = refl
parts_wanted (Dump callers shards) input e = refl
parts_wanted (Work requests start) input e = refl
parts_wanted Ranges input e = absurd (cc)
parts_wanted (Trace callers shards) input e = refl
parts_wanted Audit input e = absurd (cc)
parts_wanted (Clients callers shards) input e = absurd (cc)

handled : (c : Command) → serves_one c ≡ true → has_handlers c ≡ true
handled Check e = refl
handled Show e = refl
handled (Serve callers shards) e = refl
handled (Dump callers shards) e = refl
handled (Work requests start) e = refl
handled Ranges e = e
handled (Trace callers shards) e = refl
handled Audit e = absurd (cc)
handled (Clients callers shards) e = refl

-- it answers to requests
requested : (c : Command) → serves_one c ≡ true → has_requests c ≡ true
requested Check e = e
requested Show e = e
requested (Serve callers shards) e = refl
requested (Dump callers shards) e = refl
requested (Work requests start) e = refl
requested Ranges e = e
requested (Trace callers shards) e = refl
requested Audit e = refl
requested (Clients callers shards) e = refl

-- its input is a session file, and its parts are that file's
whole : (c : Command) (input : List ℕ) → serves_one c ≡ true → parts_in c input ≡ parts_of input
whole Check input e = refl
whole Show input e = refl
whole (Serve callers shards) input e = refl
whole (Dump callers shards) input e = refl
whole (Work requests start) input e = refl
whole Ranges input e = refl
whole (Trace callers shards) input e = refl
whole Audit input e = absurd (cc)
whole (Clients callers shards) input e = absurd (cc)

short_of : (c : Command) (input : List ℕ) → serves_one c ≡ true → length input ≤ max_input → IsShort c input
short_of Check input e h = h
short_of Show input e h = h
short_of (Serve callers shards) input e h = h
short_of (Dump callers shards) input e h = h
short_of (Work requests start) input e h = h
short_of Ranges input e h = h
short_of (Trace callers shards) input e h = h
short_of Audit input e h = absurd (cc)
short_of (Clients callers shards) input e h = h

pub session_input : (c : Command) (input : List ℕ) → serves_one c ≡ true → IsSessionInput input → IsInput c input
session_input c input has i = record { short = short_of c input has i.short; utf8 = i.utf8; parts = parts_wanted c input has ∙ ap divided_fault i.divided }

pub input_reason : (c : Command) (input : List ℕ) (e : LoadError) → serves_one c ≡ true → IsInputReason input e → IsReason c input e
input_reason c input NoMemory has h = tt
input_reason c input (Refused fault.TooLarge) has h = absurd h
input_reason c input (Refused fault.NotText) has h = (short_of c input has h.0, h.1)
input_reason c input (Refused fault.NoRequests) has h = (short_of c input has h.0, h.1, parts_wanted c input has ∙ ap divided_fault h.2)
input_reason c input (Refused fault.HasRequests) has h = absurd h
input_reason c input (Refused fault.NoTrace) has h = absurd h.1
input_reason c input (Refused fault.TooManyClients) has h = absurd h.1
input_reason c input (Refused (fault.Syntax e)) has h =
    (session_input c input has h.0, subst (λ (t : List ℕ). IsSessionReason (parts_by t (parts_of input).tables (parts_of input).requests (parts_of input).first_table (parts_of input).first) (Refused (fault.Syntax e))) (sym (handlers_same c input has)) h.1, handled c has)
input_reason c input (Refused (fault.Check e)) has h =
    (session_input c input has h.0, subst (λ (t : List ℕ). IsSessionReason (parts_by t (parts_of input).tables (parts_of input).requests (parts_of input).first_table (parts_of input).first) (Refused (fault.Check e))) (sym (handlers_same c input has)) h.1, handled c has)
input_reason c input (Refused (fault.Analysis e)) has h =
    (session_input c input has h.0, subst (λ (t : List ℕ). IsSessionReason (parts_by t (parts_of input).tables (parts_of input).requests (parts_of input).first_table (parts_of input).first) (Refused (fault.Analysis e))) (sym (handlers_same c input has)) h.1, handled c has)
input_reason c input (Refused (fault.Tables e)) has h = (session_input c input has h.0, requested c has, subst (λ (t : Parts). HasTableFault t e) (sym (whole c input has)) h.1)
input_reason c input (Refused (fault.Request e)) has h = (session_input c input has h.0, requested c has, subst (λ (t : Parts). HasRequestFault t e) (sym (whole c input has)) h.1)
input_reason c input (Refused (fault.Trace e)) has h = absurd h.1
input_reason c input (Refused (fault.Ranges e)) has h = absurd h.1

-- ---- range sessions
module _ {O : Type 0} (bytes : List ℕ) (out : Change O) where
  pub ranged_to : (text : List ℕ) (s : Status) → IsInput Ranges bytes → IsTextOf Ranges bytes text → EndsBy text out s → AnswersSingle Ranges bytes out s
  ranged_to text s i is e = ends_to Ranges bytes out text i is s e

  pub unranged_to : (e : LoadError) → IsUntouched out → IsReason Ranges bytes e → AnswersSingle Ranges bytes out (status_of e)
  unranged_to e same r = reason_to Ranges bytes out same e r

-- ---- audits
module _ {O : Type 0} (bytes : List ℕ) (out : Change O) where
  pub audited_to : (text : List ℕ) (s : Status) → IsInput Audit bytes → IsTextOf Audit bytes text → EndsBy text out s → AnswersSingle Audit bytes out s
  audited_to text s i is e = ends_to Audit bytes out text i is s e

  pub unaudited_to : (e : LoadError) → IsUntouched out → IsReason Audit bytes e → AnswersSingle Audit bytes out (status_of e)
  unaudited_to e same r = reason_to Audit bytes out same e r

-- ---- bytes that a caller keeps
unanswered : (c : Command) (bytes : List ℕ) (e : LoadError) → IsReason c (input_of c bytes) e → EndsUnanswered c bytes (status_of e)
unanswered c bytes NoMemory h = tt
unanswered c bytes (Refused f) h = h

pub described_bytes : (shown : Bool) (bytes text : List ℕ) → IsInput (describing shown) bytes → IsTextOf (describing shown) bytes text → CommandAnswers (Some (describing shown)) bytes (answer.Text text)
described_bytes true bytes text i is = (i, is)
described_bytes false bytes text i is = (i, is)

pub undescribed_bytes : (shown : Bool) (bytes : List ℕ) (e : LoadError) → IsReason (describing shown) bytes e → EndsUnanswered (describing shown) bytes (status_of e)
undescribed_bytes true bytes e h = unanswered Show bytes e h
undescribed_bytes false bytes e h = unanswered Check bytes e h

pub unranged_bytes : (bytes : List ℕ) (e : LoadError) → IsReason Ranges bytes e → EndsUnanswered Ranges bytes (status_of e)
unranged_bytes bytes e h = unanswered Ranges bytes e h
