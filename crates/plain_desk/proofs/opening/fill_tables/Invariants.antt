use Rattle.std.proofs.Common.{◌≡◌, take}
use Rattle.session_journal.specs.Opening.{tables_of}
use Rattle.plain_desk.proofs.opening.fill_tables.Given as goal

-- the first tables are filled
abbrev pub invariant-loop-table : goal.invariant-loop-table
invariant-loop-table g l = l.tables ≡ tables_of l.shape (take l.table (g.S.Script.meaning l.script).opened)
