use Rattle.std.proofs.Common.{◌≡◌, take}
use Rattle.session_values.specs.Tables.{start}
use Rattle.plain_tables.specs.Containers.{tables_of}
use Rattle.plain_tables.proofs.tables.PlainTables.new.Given as goal

-- the tables so far are the start of the kinds so far
abbrev pub invariant-loop-kind : goal.invariant-loop-kind
invariant-loop-kind l = tables_of l.tables.items ≡ start (take l.kind-index l.shape)
