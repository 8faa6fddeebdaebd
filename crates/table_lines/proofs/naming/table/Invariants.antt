use Rattle.std.proofs.Common.{◌≤◌}
use Rattle.table_lines.specs.TableRows.{table_of}
use Rattle.table_lines.proofs.naming.table.Given as goal

-- no table before has the name
abbrev pub invariant-loop-i : goal.invariant-loop-i
invariant-loop-i l = l.i ≤ table_of l.names l.tables l.name
