-- What a command finds in its input, out of its row.
use Rattle.std.specs.Prelude.{◌≡◌, ℕ, ◌<◌, ◌≤◌, ◌⊎◌, Bool, true, false, IsUtf8, List, length, Option, None}
use Rattle.session_values.specs.Limits.{max_input}
use Rattle.request_files.specs.TracePart.{before_trace}
use Rattle.serve_words.specs.declared.command.Command.{Command}
use Rattle.serve_faults.specs.declared.status.Fault.{Fault}
use Rattle.serve_faults.specs.Rows.{row}
pub use Rattle.serve_faults.specs.Parts.{Parts, alone_fault, client_marks, client_parts, clients_fault, divided_fault, front_of, has_mark, is_divided, max_audit_input, of_all_clients, parts_by, parts_of, traced_fault}

-- the most bytes of a command's input
abbrev pub most_of : Command → ℕ
most_of command = (row command).most

-- no more bytes than an input has, by whether a trace is judged in it: then one has no more before
-- its trace part, or in the whole where it has none, than another command's input
abbrev pub IsShortBy : Bool → List ℕ → Type 0
IsShortBy true input =
    (length input ≤ max_audit_input) × (length (before_trace input) ≤ max_input)
IsShortBy false input = length input ≤ max_input

abbrev pub IsShort : Command → List ℕ → Type 0
IsShort command input = IsShortBy (row command).judges input

-- it has more
abbrev pub IsTooLargeBy : Bool → List ℕ → Type 0
IsTooLargeBy true input =
    (max_audit_input < length input) ⊎ (max_input < length (before_trace input))
IsTooLargeBy false input = max_input < length input

abbrev pub IsTooLarge : Command → List ℕ → Type 0
IsTooLarge command input = IsTooLargeBy (row command).judges input

-- the session file in an input: for `audit` what stands before the trace part
abbrev pub session_in : Command → List ℕ → List ℕ
session_in command input = (row command).session input

-- what a command answers to, of the parts of its session file
abbrev pub parts_for : Command → Parts → Parts
parts_for command parts = (row command).parts parts

-- these parts of the session file in an input
abbrev pub parts_in : Command → List ℕ → Parts
parts_in command input = parts_for command (parts_of (session_in command input))

-- the fault of an input that hasn't the parts that the command wants; lines of holds and operations
-- have none
abbrev pub parts_fault : Command → List ℕ → Option Fault
parts_fault command input = (row command).fault input

-- the text of the handlers in an input
abbrev pub handlers_of : Command → List ℕ → List ℕ
handlers_of command input = (row command).text input

-- an input with the parts that the command answers to
pub record IsInput (command : Command) (input : List ℕ) : Type 0 where
  pub short : IsShort command input
  pub utf8 : IsUtf8 input
  pub parts : parts_fault command input ≡ None
