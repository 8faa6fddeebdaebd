use Rattle.std.proofs.Common.{map, drop}
use Rattle.std.specs.List.{flat_map}
use Rattle.syntax_printer.specs.Canonical.{table_text, each}
use Rattle.syntax_trees.specs.Mentions.{AreNamed, table_mentions}
use Rattle.syntax_printer.proofs.Loops.{Owes}
use Rattle.syntax_printer.proofs.file.put_tables.Given as goal

abbrev pub invariant-loop-table : goal.invariant-loop-table
invariant-loop-table g l = record {
  text : Owes g.T.TextSink.IsDue (each (map (table_text l.names) l.tables)) (each (map (table_text l.names) (drop l.table-index l.tables))) l.fn.out l.out;
  named : AreNamed l.names (flat_map table_mentions (drop l.table-index l.tables));
}
