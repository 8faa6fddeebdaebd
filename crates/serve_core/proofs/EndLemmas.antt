-- What a command answers to its input, and with which hall, from what its parts say.
use Rattle.std.proofs.Common.{◌≡◌, ℕ, true, List, Option, Some, None, refl}
use Rattle.session_hall.specs.Closings.{ClosedView}
use Rattle.serve_words.specs.declared.command.Command.{Command}
use Rattle.serve_faults.specs.declared.status.Status.{Status}
use Rattle.serve_faults.specs.declared.status.Status.TheVariants as status
use Rattle.serve_faults.specs.Commands.{input_of}
use Rattle.serve_faults.specs.Input.{IsInput}
use Rattle.serve_faults.specs.Answer.{IsTextOf}
use Rattle.byte_ends.specs.Changes.{Change, IsUntouched}
use Rattle.serve_reading.specs.declared.load_error.LoadError.{LoadError}
use Rattle.serve_reading.specs.declared.load_error.LoadError.TheVariants.{Refused, NoMemory}
use Rattle.serve_reading.specs.Reasons.{IsReason}
use Rattle.serve_single.specs.Serving.{EndsBy, status_of}
use Rattle.serve_single.proofs.EndLemmas as single
use Rattle.serve_core.specs.Commands.{has_begun_writing}
use Rattle.serve_core.specs.Runs.{AnswersTo, Holds, Opens, WroteJournal}
use Rattle.serve_core.proofs.RunLemmas.{not_opened}

-- ---- a command that refuses, or wants memory
module _ {O : Type 0} (c : Command) (bytes : List ℕ) (out : Change O) (same : IsUntouched out) where
  pub memory_to : AnswersTo c bytes out status.NoMemory None
  memory_to = record {
    single = single.memory_to c bytes out same;
    served = not_opened c bytes status.NoMemory refl;
    hall = tt;
    traced = λ _ _. tt;
  }

  pub reason_to : (e : LoadError) → IsReason c (input_of c bytes) e → AnswersTo c bytes out (status_of e) None
  reason_to NoMemory h = memory_to
  reason_to (Refused f) h = record {
    single = single.reason_to c bytes out same (Refused f) h;
    served = not_opened c bytes (status.Refused f) refl;
    hall = tt;
    traced = λ _ _. tt;
  }

-- ---- a command that writes its text
pub ends_to : {O : Type 0} (c : Command) (bytes : List ℕ) (out : Change O) (text : List ℕ) → IsInput c (input_of c bytes) → IsTextOf c (input_of c bytes) text → (s : Status) (closed : Option ClosedView) → EndsBy text out s → Opens (Some c) bytes s closed
    → Holds (Some c) bytes out s closed → WroteJournal (Some c) bytes out s closed → AnswersTo c bytes out s closed
ends_to c bytes out text i is s closed e served hall traced = record {
  single = single.ends_to c bytes out text i is s e;
  served = served;
  hall = hall;
  traced = traced;
}

-- then it has come to its output
pub begins : {O : Type 0} (out : Change O) (s : Status) (text : List ℕ) → EndsBy text out s → has_begun_writing s ≡ true
begins out status.Fine text e = refl
begins out status.WriteFault text e = refl
begins out (status.Refused f) text e = absurd e
begins out status.Usage text e = absurd e
begins out status.NoMemory text e = absurd e
begins out status.ReadFault text e = absurd e
