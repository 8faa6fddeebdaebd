-- What a whole run asks of its command, beside what its row in `serve_faults` says.
use Rattle.std.specs.Prelude.{ℕ, Bool, ◌&&◌, true, false, nat_lt, if◌then◌else◌, List, length, Option, Some, None}
use Rattle.serve_words.specs.declared.command.Command.{Command}
use Rattle.serve_words.specs.declared.command.Command.TheVariants.{Serve, Dump, Trace, Clients}
use Rattle.serve_faults.specs.declared.status.Status.{Status}
use Rattle.serve_faults.specs.declared.status.Status.TheVariants as status
use Rattle.serve_faults.specs.Commands.{is_serving}
pub use Rattle.serve_faults.specs.Commands.{is_gathering, writes_events}
use Rattle.serve_faults.specs.Input.{client_parts}
use Rattle.serve_faults.specs.Session.{rows_of}
use Rattle.serve_core.specs.declared.asked.Writes.{Writes}
use Rattle.serve_core.specs.declared.asked.Writes.TheVariants.{ClientReplies, Events, Replies, Tables}

-- whether a run that ended so has come to its output
abbrev pub has_begun_writing : Status → Bool
has_begun_writing status.Fine = true
has_begun_writing (status.Refused fault) = false
has_begun_writing status.Usage = false
has_begun_writing status.NoMemory = false
has_begun_writing status.ReadFault = false
has_begun_writing status.WriteFault = true

-- whether a command that ended so has served through a hall
abbrev pub has_served : Option Command → Status → Bool
has_served None s = false
has_served (Some command) s = is_serving command && has_begun_writing s

-- whether a command that serves its input opens a hall for it: one that serves several clients only
-- where there is a request
abbrev pub has_ticket : Command → List ℕ → Bool
has_ticket command input =
    if is_gathering command then nat_lt 0 (length (rows_of (client_parts input))) else true

-- whether it does so whatever its input is
abbrev pub opens_always : Option Command → Bool
opens_always None = true
opens_always (Some command) = if is_gathering command then false else true

-- the command that serves a session file and writes this of it
abbrev pub command_for : Writes → ℕ → ℕ → Command
command_for Replies callers shards = Serve callers shards
command_for Tables callers shards = Dump callers shards
command_for Events callers shards = Trace callers shards
command_for ClientReplies callers shards = Clients callers shards
