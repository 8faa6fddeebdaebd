-- What reading a source leaves: all of it was read, or why the reading stopped.
use Rattle.std.specs.Prelude.{◌≡◌, ℕ, ◌+◌, ◌<◌, ◌≤◌, Bool, if◌then◌else◌, List, length, IfSome}
use Rattle.declaration_insertion.specs.Ends.{IsAtEnd, Consumed, ConsumedAtMost}
use Rattle.serve_words.specs.declared.command.Command.{Command}
use Rattle.serve_words.specs.declared.command.Command.TheVariants.{Check, Show}
use Rattle.serve_faults.specs.declared.status.Fault.TheVariants.{TooLarge}
use Rattle.serve_faults.specs.declared.status.Status.{Status}
use Rattle.serve_faults.specs.declared.status.Status.TheVariants as status
use Rattle.byte_ends.specs.Changes.{Change, Failed, HasNotFailed}

-- all that a source had was read, which is at most so many bytes, it is at its end, and no read
-- failed
pub record HasRead {I : Type 0} (most : ℕ) (source : Change I) (bytes : List ℕ) : Type 0 where
  pub short : length bytes ≤ most
  pub all : IfSome (source.bytes source.old) (λ all. bytes ≡ all)
  pub end : IsAtEnd (source.bytes source.old) (source.bytes source.new)
  pub lost : ConsumedAtMost (source.bytes source.old) (source.bytes source.new) (most + 1)
  pub well : HasNotFailed source

-- why a reading of at most so many bytes that ended with this status stopped
abbrev pub StopsAs : {I : Type 0} → ℕ → Change I → Status → Type 0
StopsAs most source (status.Refused TooLarge) =
    IfSome (source.bytes source.old) (λ all. most < length all)
    × Consumed (source.bytes source.old) (source.bytes source.new) (most + 1)
    × HasNotFailed source
StopsAs most source (status.Refused fault) = ⊥
StopsAs most source status.ReadFault = Failed source
StopsAs most source status.NoMemory = HasNotFailed source
StopsAs most source status.Fine = ⊥
StopsAs most source status.Usage = ⊥
StopsAs most source status.WriteFault = ⊥

-- a reading of at most so many bytes stopped for what this status says; of the source's first bytes
-- at most one more are gone, and no others, where they are told
abbrev pub StoppedAs : {I : Type 0} → ℕ → Change I → Status → Type 0
StoppedAs most source s =
    ConsumedAtMost (source.bytes source.old) (source.bytes source.new) (most + 1)
    × StopsAs most source s

-- the command that writes a file of handlers again, with its declarations or without
abbrev pub describing : Bool → Command
describing shown = if shown then Show else Check
