use Rattle.std.proofs.Common.{length}
use Rattle.syntax_parser.proofs.ListLoops.{TablesSoFar}
use Rattle.syntax_parser.proofs.parse_table.tables.Given as goal

abbrev pub invariant-tables : goal.invariant-tables
invariant-tables l = TablesSoFar l.fn.input l.input l.items.items

abbrev pub decreases-tables : goal.decreases-tables
decreases-tables l = length l.input.reader.words
