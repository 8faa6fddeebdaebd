-- With which number the program ends, by the run of its words.
use Rattle.std.specs.Prelude.{◌≡◌, ℕ, List, Option}
use Rattle.byte_ends.specs.Changes.{Change, IsUntouched}
use Rattle.session_hall.specs.Closings.{ClosedView}
use Rattle.serve_words.specs.Commands.{command_of}
use Rattle.serve_faults.specs.ExitStatus.{exit_status}
use Rattle.serve_faults.specs.declared.status.Status.{Status}
use Rattle.serve_faults.specs.declared.status.Status.TheVariants.{NoMemory}
use Rattle.serve_single.specs.Runs.{Tells}
use Rattle.serve_core.specs.Runs.{Runs}

-- It is that of the status with which the run of the words ended.
pub record EndsAsRun {I O E : Type 0} (words : List (List ℕ)) (source : Change I) (out : Change O)
    (err : Change E) (number : ℕ) : Type 0 where
  pub status : Status
  pub closed : Option ClosedView
  pub runs : Runs (command_of words) source out status closed
  pub tells : Tells err status
  pub number_is : number ≡ exit_status status

-- Without memory for the words nothing is read or written, and it is that of no memory.
pub record EndsWithoutWords {I O E : Type 0} (source : Change I) (out : Change O) (err : Change E)
    (number : ℕ) : Type 0 where
  pub unread : IsUntouched source
  pub unwritten : IsUntouched out
  pub tells : Tells err NoMemory
  pub number_is : number ≡ exit_status NoMemory
