-- How a run ends: with which line and with which number.
use Rattle.std.specs.Prelude.{◌≡◌, ◌⊎◌, ℕ, Bool, true, false, List, codes}
use Rattle.byte_ends.specs.Changes.{Change, Failed, IsUntouched, WroteAll, WrotePrefix}
use Rattle.serve_faults.specs.Message.{message_of}
use Rattle.serve_faults.specs.declared.status.Fault.TheVariants.{TooLarge}
use Rattle.serve_faults.specs.declared.status.Status.{Status}
use Rattle.serve_faults.specs.declared.status.Status.TheVariants.{Fine, Refused, Usage, NoMemory, ReadFault, WriteFault}

-- the line that tells the version
abbrev pub version_line : List ℕ
version_line = codes "foresight_waits 2.1\n"

-- the line on the error output; none where all is written
abbrev pub line_of : Status → List ℕ
line_of Usage = codes "usage: foresight_waits [--trace] [--json] [FILE] | --version\n"
line_of s = message_of s

-- whether a run that reads, and that ended so, has read all
abbrev pub has_read_all : Status → Bool
has_read_all Fine = true
has_read_all (Refused TooLarge) = false
has_read_all (Refused fault) = true
has_read_all Usage = false
has_read_all NoMemory = false
has_read_all ReadFault = false
has_read_all WriteFault = true

-- whether a run that ended so came to its output
abbrev pub has_begun_writing : Status → Bool
has_begun_writing Fine = true
has_begun_writing (Refused fault) = false
has_begun_writing Usage = false
has_begun_writing NoMemory = false
has_begun_writing ReadFault = false
has_begun_writing WriteFault = true

-- the text was written, or a write failed and a front of it stands there
abbrev pub Writes : {O : Type 0} → List ℕ → Change O → Status → Type 0
Writes text out s = ((s ≡ Fine) × WroteAll out text)
    ⊎ ((s ≡ WriteFault) × Failed out × WrotePrefix out text)

-- The line on the error output is that of the status and no write of it failed; or a write failed,
-- none was tried after it, and a front of the line stands there.
pub record EndsWithLine {E : Type 0} (err : Change E) (s : Status) : Type 0 where
  pub line : WroteAll err (line_of s) ⊎ Failed err × WrotePrefix err (line_of s)
  -- A run that has written all writes none.
  pub quiet : s ≡ Fine → IsUntouched err
