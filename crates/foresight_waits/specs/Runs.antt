-- What a run promises, over its words, its input, its files, its outputs and how it ended.
use Rattle.std.specs.Prelude.{◌≡◌, ◌≢◌, ◌+◌, ◌<◌, ◌≤◌, ◌⊎◌, ℕ, true, false, List, length, Option, Some, None, IfSome}
use Rattle.byte_ends.specs.Ends.{IsAtEnd, ConsumedAtMost}
use Rattle.byte_ends.specs.Changes.{Change, Failed, HasNotFailed, IsUntouched, WroteAll, WrotePrefix}
use Rattle.serve_faults.specs.ExitStatus.{exit_status}
use Rattle.serve_faults.specs.declared.status.Fault.{Fault}
use Rattle.serve_faults.specs.declared.status.Fault.TheVariants.{TooLarge}
use Rattle.serve_faults.specs.declared.status.Status.{Status}
use Rattle.serve_faults.specs.declared.status.Status.TheVariants.{Fine, Usage, NoMemory, ReadFault, WriteFault}
use Rattle.serve_faults.specs.declared.status.Status.TheVariants as status
use Rattle.serve_reading.specs.declared.load_error.LoadError.{LoadError}
use Rattle.serve_reading.specs.declared.load_error.LoadError.TheVariants as load_error
use Rattle.serve_reading.specs.Reasons.{IsReason}
use Rattle.serve_faults.specs.Command.TheVariants.{Audit}
use Rattle.serve_faults.specs.Input.{max_audit_input}
use Rattle.waiting_pairs.specs.Limits.{max_input}
use Rattle.waiting_pairs.specs.Told.{IsTold, IsUntold}
use Rattle.waiting_pairs.specs.TraceTold.{IsTraceTold}
use Rattle.waiting_pairs.specs.declared.form.Form.{Form}
use Rattle.foresight_waits.specs.declared.command.Subject.{Subject}
use Rattle.foresight_waits.specs.declared.command.Subject.TheVariants.{Waits, Delays}
use Rattle.foresight_waits.specs.Commands.{Asked, tell, version, command_of}
use Rattle.foresight_waits.specs.Endings.{EndsWithLine, Writes, has_begun_writing, has_read_all, version_line}

-- ---- what is due
-- the most bytes of an input
abbrev pub most : Subject → ℕ
most Waits = max_input
most Delays = max_audit_input

-- the text tells of an input in this form: who may wait for whom in its handlers, or who waited for
-- whom in its trace
abbrev pub IsTextOf : Subject → Form → (input text : List ℕ) → Type 0
IsTextOf Waits form input text = IsTold form input text
IsTextOf Delays form input text = IsTraceTold form input text

-- why there is no text of an input that isn't too long: memory ran out, or this is the first rule
-- that it breaks
abbrev pub IsReasonOf : Subject → List ℕ → LoadError → Type 0
IsReasonOf Waits input e = (length input ≤ max_input) × IsUntold input e
IsReasonOf Delays input e = IsReason Audit input e

-- the first rule that an input breaks
abbrev pub IsFaultOf : Subject → List ℕ → Fault → Type 0
IsFaultOf subject input fault = ((most subject < length input) × (fault ≡ TooLarge))
    ⊎ IsReasonOf subject input (load_error.Refused fault)

-- ---- what is answered and written
-- what an input is answered with, and what of the answer was written
pub record Answered {O : Type 0} (subject : Subject) (form : Form) (input : List ℕ) (out : Change O)
    (s : Status) : Type 0 where
  -- The whole text was written,
  pub fine : s ≡ Fine → (text : List ℕ) × IsTextOf subject form input text × WroteAll out text
  -- or, before a write failed, a front of it;
  pub front : s ≡ WriteFault
      → (text : List ℕ) × IsTextOf subject form input text × WrotePrefix out text
  -- or the first broken rule is refused.
  pub refused : (fault : Fault) → s ≡ status.Refused fault → IsFaultOf subject input fault

-- what becomes of the output
pub record Written {O : Type 0} (out : Change O) (s : Status) : Type 0 where
  -- One write failed, and none was tried after it; with any other status none failed.
  pub write_fault : s ≡ WriteFault → Failed out
  pub written_well : s ≢ WriteFault → HasNotFailed out
  -- Where the run didn't come to its output, nothing is written.
  pub unwritten : has_begun_writing s ≡ false → IsUntouched out

-- what is written for an input that was read
pub record Shows {O : Type 0} (subject : Subject) (form : Form) (input : List ℕ) (out : Change O)
    (s : Status) : Type 0 where
  pub usage : s ≢ Usage
  pub read_fault : s ≢ ReadFault
  pub written : Written out s
  pub answered : Answered subject form input out s

-- a run that tells of what this source gives: these bytes, where they are told
pub record Tells {S O : Type 0} (subject : Subject) (form : Form) (given : Option (List ℕ))
    (source : Change S) (out : Change O) (s : Status) : Type 0 where
  pub usage : s ≢ Usage
  -- An opening or one read failed, and nothing was read after it; with any other status none failed.
  pub read_fault : s ≡ ReadFault → Failed source
  pub read_well : s ≢ ReadFault → HasNotFailed source
  -- Its clauses are `write_fault`, `written_well` and `unwritten`.
  pub written : Written out s
  -- All is read before anything is written or refused, but where there is too much.
  pub end : has_read_all s ≡ true → IsAtEnd given (source.bytes source.new)
  -- Its clauses are `fine`, `front` and `refused`.
  pub answered : IfSome given (λ input. Answered subject form input out s)

-- a run that tells of the input; it opens no file, and reads at most one byte above the bound
pub record TellsOfInput {I F O : Type 0} (subject : Subject) (form : Form) (source : Change I)
    (files : Change F) (out : Change O) (s : Status) : Type 0 where
  pub tells : Tells subject form (source.bytes source.old) source out s
  pub lost : ConsumedAtMost (source.bytes source.old) (source.bytes source.new) (most subject + 1)
  pub unopened : IsUntouched files

-- a run that tells of a file with these bytes, where they are told; it reads no input
pub record TellsOfFile {I F O : Type 0} (subject : Subject) (form : Form) (source : Change I)
    (files : Change F) (file : Option (List ℕ)) (out : Change O) (s : Status) : Type 0 where
  pub tells : Tells subject form file files out s
  pub unread : IsUntouched source

-- a run that writes the version; it reads nothing, and takes no memory
pub record TellsVersion {I F O : Type 0} (source : Change I) (files : Change F) (out : Change O)
    (s : Status) : Type 0 where
  pub unread : IsUntouched source × IsUntouched files
  pub writes : Writes version_line out s

-- a run that ends so before it reads or writes anything
pub record EndsUnread {I F O : Type 0} (source : Change I) (files : Change F) (out : Change O)
    (wanted s : Status) : Type 0 where
  pub ending : s ≡ wanted
  pub unread : IsUntouched source × IsUntouched files
  pub unwritten : IsUntouched out

-- A run that is asked for this, or whose words are none of the program's. Beside the files stands
-- what the file of each name has, where that is told.
abbrev pub RunsAsked : {I F O : Type 0} → Option Asked → Change I → Change F
    → (List ℕ → Option (List ℕ)) → Change O → Status → Type 0
RunsAsked None source files file_of out s = EndsUnread source files out Usage s
RunsAsked (Some version) source files file_of out s = TellsVersion source files out s
RunsAsked (Some (tell subject form None)) source files file_of out s =
    TellsOfInput subject form source files out s
RunsAsked (Some (tell subject form (Some name))) source files file_of out s =
    TellsOfFile subject form source files (file_of name) out s

-- ---- what is promised
-- a run with these words
abbrev pub Runs : {I F O : Type 0} → List (List ℕ) → Change I → Change F
    → (List ℕ → Option (List ℕ)) → Change O → Status → Type 0
Runs words source files file_of out s = RunsAsked (command_of words) source files file_of out s

-- the program ends with the number of the status with which the run of the words ended
pub record EndsAsRun {I F O E : Type 0} (words : List (List ℕ)) (source : Change I)
    (files : Change F) (file_of : List ℕ → Option (List ℕ)) (out : Change O) (err : Change E)
    (number : ℕ) : Type 0 where
  pub status : Status
  pub runs : Runs words source files file_of out status
  pub line : EndsWithLine err status
  pub number_is : number ≡ exit_status status

-- it reads and writes nothing, says that it ended so, and ends with the number of that
pub record EndsWithoutRun {I F O E : Type 0} (source : Change I) (files : Change F) (out : Change O)
    (err : Change E) (status : Status) (number : ℕ) : Type 0 where
  pub unread : IsUntouched source × IsUntouched files
  pub unwritten : IsUntouched out
  pub line : EndsWithLine err status
  pub number_is : number ≡ exit_status status

-- with which number the program ends: without words, where one is no text, by usage
abbrev pub Ends : {I F O E : Type 0} → Option (List (List ℕ)) → Change I → Change F
    → (List ℕ → Option (List ℕ)) → Change O → Change E → ℕ → Type 0
Ends None source files file_of out err number =
    EndsWithoutRun source files out err Usage number
Ends (Some words) source files file_of out err number =
    EndsAsRun words source files file_of out err number
