-- The commands that the library answers.
use Rattle.std.specs.Prelude.{ℕ}
use Rattle.serve_faults.specs.Command.{Command}
use Rattle.serve_faults.specs.Command.TheVariants as command
use Rattle.foresight_c.specs.declared.calling.Call.{Call}
use Rattle.foresight_c.specs.declared.calling.Call.TheVariants.{Check, Show, Ranges, Audit, Serve, Dump}

-- the command of a call, with as many callers and shards as it may name
abbrev pub command_of : Call → ℕ → ℕ → Command
command_of Check callers shards = command.Check
command_of Show callers shards = command.Show
command_of Ranges callers shards = command.Ranges
command_of Audit callers shards = command.Audit
command_of Serve callers shards = command.Serve callers shards
command_of Dump callers shards = command.Dump callers shards
