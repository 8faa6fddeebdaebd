use Rattle.std.proofs.Common.{◌+◌, ◌≤◌, length}
use Rattle.text_lines.specs.Rows.{rows}
use Rattle.text_lines.specs.Text.{lines}
use Rattle.text_lines.proofs.TextLemmas.{total}
use Rattle.table_lines.proofs.Going.{Going}
use Rattle.table_lines.proofs.reading.read_tables.Given as goal

abbrev pub invariant-lines : goal.invariant-lines
invariant-lines l = record {
  next : (goal.iterator-lines).can_next l.lines;
  finite : (goal.iterator-lines).is_finite l.lines;
  going : Going l.fn.names l.checked.tables (rows l.first (lines l.text)) l.names (rows l.lines.number (lines l.lines.rest.now)) l.found;
  room : length l.names + total (lines l.lines.rest.now) ≤ length l.fn.names + length l.text;
}
