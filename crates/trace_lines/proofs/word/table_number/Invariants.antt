use Rattle.std.proofs.Common.{◌≤◌}
use Rattle.session_values.specs.Names.{place_of}
use Rattle.trace_lines.specs.EventWords.{table_names}
use Rattle.trace_lines.proofs.word.table_number.Given as goal

-- no table before has the name
abbrev pub invariant-loop-i : goal.invariant-loop-i
invariant-loop-i l = l.i ≤ place_of (table_names l.names l.tables) l.name
