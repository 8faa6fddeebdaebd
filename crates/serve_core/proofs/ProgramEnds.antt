-- With which number the program ends.
use Rattle.std.proofs.Common.{◌≡◌, ℕ, List, Option}
use Rattle.byte_ends.specs.Changes.{Change, IsUntouched}
use Rattle.session_hall.specs.Closings.{ClosedView}
use Rattle.serve_words.specs.Commands.{command_of}
use Rattle.serve_faults.specs.ExitStatus.{exit_status}
use Rattle.serve_faults.specs.declared.status.Status.{Status}
use Rattle.serve_faults.specs.declared.status.Status.TheVariants as status
use Rattle.serve_single.specs.Runs.{Tells}
use Rattle.serve_core.specs.Endings.{EndsAsRun, EndsWithoutWords}
use Rattle.serve_core.specs.Runs.{Runs}

module _ {I O E : Type 0} (source : Change I) (out : Change O) (err : Change E) where
  pub ends_as_run : (words : List (List ℕ)) (s : Status) (closed : Option ClosedView) (number : ℕ) → Runs (command_of words) source out s closed → Tells err s → number ≡ exit_status s → EndsAsRun words source out err number
  ends_as_run words s closed number runs tells is = record { status = s; closed = closed; runs = runs; tells = tells; number_is = is }

  pub ends_without_words : (number : ℕ) → IsUntouched source → IsUntouched out → Tells err status.NoMemory → number ≡ 3 → EndsWithoutWords source out err number
  ends_without_words number unread unwritten tells is = record { unread = unread; unwritten = unwritten; tells = tells; number_is = is }
