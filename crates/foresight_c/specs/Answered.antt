-- What a call of the library promises.
use Rattle.std.specs.Prelude.{◌≡◌, ◌≢◌, ◌-◌, ◌<◌, ◌≤◌, ◌^◌, ◌⊎◌, ℕ, min, List, [], length, Some}
use Rattle.serve_faults.specs.Command.{Command}
use Rattle.serve_faults.specs.declared.status.Fault.{Fault}
use Rattle.serve_faults.specs.declared.status.Status.{Status}
use Rattle.serve_faults.specs.declared.status.Status.TheVariants as status
use Rattle.serve_faults.specs.Answer.{CommandAnswers, IsUnrefused}
use Rattle.serve_faults.specs.Answer as answer
use Rattle.serve_faults.specs.ExitStatus.{exit_status}
use Rattle.serve_faults.specs.Message.{message_of}
use Rattle.foresight_c.specs.declared.answer.Answer.{Answer}
use Rattle.foresight_c.specs.Endings.{ending}
use Rattle.foresight_c.specs.Fronts.{put_at_front}

-- How a call of a command may end for an input, with which text, where there is room for so many
-- bytes of it.
pub record MayEnd (command : Command) (input : List ℕ) (room : ℕ) (s : Status) (text : List ℕ)
    : Type 0 where
  -- Where it ends well, the text is the command's, and has room.
  pub fine : s ≡ status.Fine
      → CommandAnswers (Some command) input (answer.Text text) × (length text ≤ room)
  -- A write fault says that the command's text has more bytes than there is room for.
  pub short : s ≡ status.WriteFault
      → CommandAnswers (Some command) input (answer.Text text) × (room < length text)
  -- With any other status there is no text.
  pub unwritten : s ≢ status.Fine → s ≢ status.WriteFault → text ≡ []
  -- A refusal is the first broken rule, and it comes unless memory runs out.
  pub refused : (fault : Fault) → s ≡ status.Refused fault
      → CommandAnswers (Some command) input (answer.Refused fault)
  pub refusing : (fault : Fault) → CommandAnswers (Some command) input (answer.Refused fault)
      → (s ≡ status.Refused fault) ⊎ (s ≡ status.NoMemory)
  -- Where no rule is broken, there is a text unless memory runs out.
  pub complete : IsUnrefused (Some command) input
      → ((s ≡ status.Fine) ⊎ (s ≡ status.WriteFault)) ⊎ (s ≡ status.NoMemory)
  pub usage : s ≢ status.Usage
  pub read_fault : s ≢ status.ReadFault

-- What a caller gets of a call that ended so with this text: the number of the status; the text and
-- the status's line at the front of their rooms, and nothing else is written there; and how many
-- bytes of them stand there, and how many the text has.
pub record IsHandedOver (s : Status) (text out out_new message message_new : List ℕ) (a : Answer)
    (number : ℕ) : Type 0 where
  pub number_is : number ≡ exit_status s
  pub out_is : out_new ≡ put_at_front out text
  pub written : a.written ≡ min (length out) (length text)
  pub needed : a.needed ≡ length text
  pub message_is : message_new ≡ put_at_front message (message_of s)
  pub told : a.told ≡ min (length message) (length (message_of s))

-- a text was handed over, whole or as much of it as there is room for; or nothing was, as if memory
-- had run out, since its length is no number below the largest
abbrev pub IsGiven : List ℕ → List ℕ → List ℕ → List ℕ → List ℕ → Answer → ℕ → Type 0
IsGiven text out out_new message message_new a number =
    IsHandedOver (ending status.Fine (length text) (length out)) text out out_new message
    message_new a number
    ⊎ ((2 ^ 64 - 1 ≤ length text)
    × IsHandedOver status.NoMemory [] out out_new message message_new a number)

-- A command answered to an input, in the caller's rooms.
pub record IsAnswered (command : Command) (input out out_new message message_new : List ℕ)
    (a : Answer) (number : ℕ) : Type 0 where
  pub status : Status
  pub text : List ℕ
  pub ends : MayEnd command input (length out) status text
  pub handed : IsHandedOver status text out out_new message message_new a number
