-- What is asked of a command, out of its row. What is asked of its input too stands in `Input`.
use Rattle.std.specs.Prelude.{ℕ, Bool, false, List, Option, Some, None}
use Rattle.serve_words.specs.declared.command.Command.{Command}
use Rattle.serve_faults.specs.Rows.{row}

-- whether a command reads its source
abbrev pub is_reading : Option Command → Bool
is_reading None = false
is_reading (Some command) = (row command).reads

-- what a command answers to, where its source has these bytes
abbrev pub input_of : Command → List ℕ → List ℕ
input_of command bytes = (row command).input bytes

-- whether a command answers to handlers
abbrev pub has_handlers : Command → Bool
has_handlers command = (row command).handlers

-- whether a command answers to requests behind a dividing line
abbrev pub has_requests : Command → Bool
has_requests command = (row command).requests

-- whether a command serves requests through a hall
abbrev pub is_serving : Command → Bool
is_serving command = (row command).serves

-- whether a command serves several clients, in rounds
abbrev pub is_gathering : Command → Bool
is_gathering command = (row command).gathers

-- whether a command judges a trace
abbrev pub is_judging : Command → Bool
is_judging command = (row command).judges

-- whether a command writes the events of its run
abbrev pub writes_events : Command → Bool
writes_events command = (row command).writes_events

-- how many callers a command serves with; one that serves nothing has none
abbrev pub callers_of : Command → ℕ
callers_of command = (row command).callers

-- over how many shards a table it serves
abbrev pub shards_of : Command → ℕ
shards_of command = (row command).shards

-- whether the text of a command is fixed by its input
abbrev pub fixes_text : Command → Bool
fixes_text command = (row command).fixes_text
