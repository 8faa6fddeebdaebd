-- What a run promises, over its command, its input, its outputs and how it ended. What `run` says
-- beside that, of the hall through which it served, stands in `serve_core`.
use Rattle.std.specs.Prelude.{◌≡◌, ◌≢◌, ◌+◌, ◌⊎◌, ◌↔◌, ℕ, Bool, true, false, is_some, List, Option, Some, None, IfSome}
use Rattle.byte_ends.specs.Ends.{IsAtEnd, Consumed, ConsumedAtMost}
use Rattle.serve_faults.specs.Command.{Command}
use Rattle.serve_faults.specs.declared.status.Fault.{Fault}
use Rattle.serve_faults.specs.declared.status.Fault.TheVariants.{TooLarge}
use Rattle.serve_faults.specs.declared.status.Status.{Status}
use Rattle.serve_faults.specs.declared.status.Status.TheVariants as status
use Rattle.serve_faults.specs.Answer.{CommandAnswers, IsUnrefused}
use Rattle.serve_faults.specs.Answer as answer
use Rattle.byte_ends.specs.Changes.{Change, Failed, HasNotFailed, IsUntouched}
use Rattle.byte_ends.specs.Changes.{WroteAll, WrotePrefix}
use Rattle.serve_faults.specs.Commands.{is_reading}
use Rattle.serve_faults.specs.Input.{most_of}
use Rattle.serve_faults.specs.Message.{message_of}

-- ---- what is read

-- this holds of the bytes that a source has, where it tells them
abbrev pub OfItsBytes : {S : Type 0} → Change S → (List ℕ → Type 0) → Type 0
OfItsBytes c P = IfSome (c.bytes c.old) P

-- this holds of whatever bytes
abbrev pub OfAnyBytes : (List ℕ → Type 0) → Type 0
OfAnyBytes P = (bytes : List ℕ) → P bytes

-- one of both, by whether the bytes are read
abbrev pub ToldBy : {S : Type 0} → Bool → Change S → (List ℕ → Type 0) → Type 0
ToldBy true c P = OfItsBytes c P
ToldBy false c P = OfAnyBytes P

-- This holds of the bytes that a source has, where it tells them; for a command that doesn't read,
-- of whatever bytes.
abbrev pub Told : {S : Type 0} → Option Command → Change S → (List ℕ → Type 0) → Type 0
Told command c P = ToldBy (is_reading command) c P

-- whether a run that reads, and that ended so, had read its source to the end
abbrev pub has_read_all : Status → Bool
has_read_all status.Fine = true
has_read_all (status.Refused TooLarge) = false
has_read_all (status.Refused fault) = true
has_read_all status.Usage = false
has_read_all status.NoMemory = false
has_read_all status.ReadFault = false
has_read_all status.WriteFault = true

-- the most bytes of the input of a command, if there is one
abbrev pub most_read : Option Command → ℕ
most_read None = 0
most_read (Some command) = most_of command

-- ---- what is answered and written

-- what an input is answered with, and what of the answer was written
pub record Answered {O : Type 0} (command : Option Command) (bytes : List ℕ) (out : Change O)
    (s : Status) : Type 0 where
  -- Where a run ends well, the command's text was written.
  pub fine : s ≡ status.Fine
      → (text : List ℕ) × CommandAnswers command bytes (answer.Text text) × WroteAll out text
  -- A refusal is the first broken rule.
  pub refused : (fault : Fault) → s ≡ status.Refused fault
      → CommandAnswers command bytes (answer.Refused fault)
  -- What was written before the sink failed is a front of the text.
  pub front : s ≡ status.WriteFault
      → (text : List ℕ) × CommandAnswers command bytes (answer.Text text) × WrotePrefix out text

-- what becomes of the output
pub record Written {O : Type 0} (out : Change O) (s : Status) : Type 0 where
  -- One write failed, and none was tried after it.
  pub write_fault : s ≡ status.WriteFault → Failed out
  -- Where a run ends well, none failed.
  pub written_well : s ≡ status.Fine → HasNotFailed out
  -- With any other status than these two nothing is written.
  pub unwritten : s ≢ status.Fine → s ≢ status.WriteFault → IsUntouched out

-- ---- what is promised

-- what a command answers to an input
pub record AnswersSingle {O : Type 0} (command : Command) (bytes : List ℕ) (out : Change O)
    (s : Status) : Type 0 where
  pub usage : s ≢ status.Usage
  pub read_fault : s ≢ status.ReadFault
  pub answered : Answered (Some command) bytes out s
  pub written : Written out s

-- A run of a command, or of no command where the words are none. Of a hall it says nothing.
pub record RunsSingle {I O : Type 0} (command : Option Command) (source : Change I) (out : Change O)
    (s : Status) : Type 0 where
  -- Usage comes exactly where the words are no command line.
  pub usage : (s ≡ status.Usage) ↔ (is_some command ≡ false)
  -- Without a command, and for `work`, nothing is read.
  pub unread : is_reading command ≡ false → IsUntouched source × (s ≢ status.ReadFault)
  -- And nothing is refused: the session that `work` makes breaks no rule.
  pub made : is_reading command ≡ false → (fault : Fault) → s ≢ status.Refused fault
  -- The text, the refusal, or a front of the text: its clauses are `fine`, `refused` and `front`.
  pub answered : Told command source (λ bytes. Answered command bytes out s)
  -- The first broken rule is refused, unless a read fails or memory runs out.
  pub refusing : Told command source (λ bytes. (fault : Fault)
      → CommandAnswers command bytes (answer.Refused fault)
      → (Failed source → ⊥) → (s ≡ status.Refused fault) ⊎ (s ≡ status.NoMemory))
  -- Where no rule is broken, and neither the source nor the sink fails, a command ends well or
  -- wants memory.
  pub complete : is_some command ≡ true → Told command source (λ bytes. IsUnrefused command bytes
      → (Failed source → ⊥) → (Failed out → ⊥) → (s ≡ status.Fine) ⊎ (s ≡ status.NoMemory))
  -- One read failed, and none was tried after it; with any other status none failed.
  pub read_fault : s ≡ status.ReadFault → Failed source
  pub read_well : s ≢ status.ReadFault → HasNotFailed source
  -- Its clauses are `write_fault`, `written_well` and `unwritten`.
  pub written : Written out s
  -- The source was read to its end, or up to the first byte that is too many; never further.
  pub end : is_reading command ≡ true → has_read_all s ≡ true
      → IsAtEnd (source.bytes source.old) (source.bytes source.new)
  pub gone : is_reading command ≡ true → s ≡ status.Refused TooLarge
      → Consumed (source.bytes source.old) (source.bytes source.new) (most_read command + 1)
  pub lost : ConsumedAtMost (source.bytes source.old) (source.bytes source.new)
      (most_read command + 1)

-- The line on the error output is the status's and no write of it failed; or a write failed, none
-- was tried after it, and a front of the line stands there.
pub record Tells {E : Type 0} (err : Change E) (s : Status) : Type 0 where
  pub line : WroteAll err (message_of s) ⊎ Failed err × WrotePrefix err (message_of s)
  -- A run that ends well writes none.
  pub quiet : s ≡ status.Fine → IsUntouched err

-- ---- over bytes that a caller keeps

-- how a run over bytes ends if there is no text: this is the first rule that they break, or memory
-- ran out
abbrev pub EndsUnanswered : Command → List ℕ → Status → Type 0
EndsUnanswered command bytes (status.Refused fault) =
    CommandAnswers (Some command) bytes (answer.Refused fault)
EndsUnanswered command bytes status.NoMemory = Unit {0}
EndsUnanswered command bytes status.Fine = ⊥
EndsUnanswered command bytes status.Usage = ⊥
EndsUnanswered command bytes status.ReadFault = ⊥
EndsUnanswered command bytes status.WriteFault = ⊥

-- A run of a command over bytes that its caller keeps: it answers to them as to a source of these
-- bytes that never fails.
pub record RunsOver {O : Type 0} (command : Command) (bytes : List ℕ) (out : Change O)
    (s : Status) : Type 0 where
  -- The text, the refusal, or a front of the text, and what becomes of the output.
  pub answers : AnswersSingle command bytes out s
  -- The first broken rule is refused, unless memory runs out.
  pub refusing : (fault : Fault) → CommandAnswers (Some command) bytes (answer.Refused fault)
      → (s ≡ status.Refused fault) ⊎ (s ≡ status.NoMemory)
  -- Where no rule is broken, and the sink doesn't fail, it ends well or wants memory.
  pub complete : IsUnrefused (Some command) bytes → (Failed out → ⊥)
      → (s ≡ status.Fine) ⊎ (s ≡ status.NoMemory)
