use Rattle.std.proofs.Common.{◌≡◌, take}
use Rattle.std.specs.Prelude.{vec_capacity}
use Rattle.session_values.specs.Opening.{entries_of}
use Rattle.table_lines.proofs.tables.take_entries.Given as goal

abbrev pub invariant-loop-i : goal.invariant-loop-i
invariant-loop-i g l = record {
  items : l.entries.items ≡ take l.i (entries_of (g.T.TellsEntries.lists l.tables) l.table);
  capacity : vec_capacity l.entries ≡ vec_capacity l.fn.entries;
}
