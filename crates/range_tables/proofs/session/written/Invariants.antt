use Rattle.text_lines.specs.Text.{lines}
use Rattle.text_lines.specs.Rows.{rows}
use Rattle.range_tables.specs.Faults.{rows_of}
use Rattle.range_tables.proofs.Going.{Going}
use Rattle.range_tables.proofs.session.written.Given as goal

abbrev pub invariant-lines : goal.invariant-lines
invariant-lines l = record {
  next : (goal.iterator-lines).can_next l.lines;
  finite : (goal.iterator-lines).is_finite l.lines;
  going : Going l.names (rows_of l.text) (rows l.lines.number (lines l.lines.rest.now)) l.session.seen l.session.table l.session.holds.items l.session.asked l.session.out.items;
}
