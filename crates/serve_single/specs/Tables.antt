-- The tables of a session that is served alone. Only this crate's own functions cite it.
use Rattle.std.specs.Prelude.{◌≡◌, List, map}
use Rattle.session_values.specs.declared.op.Op.{Op}
use Rattle.session_values.specs.declared.value.Value.{Value}
use Rattle.session_values.specs.Tables.{reply, step}
use Rattle.session_journal.specs.Opening.{Pair}
use Rattle.shard_tables.specs.declared.part.Part.{Part}
use Rattle.shard_tables.specs.Either.{entries_in}
use Rattle.serve_single.specs.declared.tables.Answering.{Answering}

-- the entries of tables that are whole in these shards, by table
abbrev pub lists_in : List Part → List (List Pair)
lists_in ps = map entries_in ps

-- an operation has its reply, and leaves the tables that it leaves
abbrev pub WholeStep : Answering → Op → Value → Answering → Type 0
WholeStep old op v new = (v ≡ reply old.tables op) × (new.tables ≡ step old.tables op)
