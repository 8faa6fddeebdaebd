use Rattle.std.proofs.Common.{◌≡◌, ◌++◌, take}
use Rattle.std.specs.Prelude.{vec_capacity}
use Rattle.byte_ends.specs.Ends.{Appended}
use Rattle.table_lines.specs.Lines.{head_text, parts_text}
use Rattle.table_lines.proofs.tables.write_tables.Given as goal

abbrev pub invariant-loop-table : goal.invariant-loop-table
invariant-loop-table g l = record {
  grew : Appended (g.O.Sink.held l.fn.out) (g.O.Sink.held l.out) (head_text ++ parts_text l.names (take l.table l.decls) (g.T.TellsEntries.lists l.tables));
  well : g.O.Sink.faults l.out ≡ g.O.Sink.faults l.fn.out;
  capacity : vec_capacity l.entries ≡ vec_capacity l.fn.entries;
}
