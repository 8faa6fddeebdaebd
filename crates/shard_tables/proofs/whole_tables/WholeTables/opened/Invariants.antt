use Rattle.std.proofs.Common.{◌≡◌, take}
use Rattle.session_values.specs.Opening.{tables_of}
use Rattle.shard_tables.proofs.whole_tables.WholeTables.opened.Given as goal

-- the first tables are filled
abbrev pub invariant-loop-table : goal.invariant-loop-table
invariant-loop-table g l = l.tables ≡ tables_of (take l.table l.shape) (g.T.TellsOpening.opened l.told)
