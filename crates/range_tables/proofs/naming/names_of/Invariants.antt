use Rattle.std.proofs.Common.{◌≡◌, ◌+◌, ◌≤◌, length}
use Rattle.text_lines.specs.Text.{lines}
use Rattle.text_lines.specs.Rows.{names_behind, rows}
use Rattle.text_lines.proofs.TextLemmas.{total}
use Rattle.range_tables.specs.Faults.{names_of}
use Rattle.range_tables.proofs.naming.names_of.Given as goal

abbrev pub invariant-lines : goal.invariant-lines
invariant-lines l = record {
  next : (goal.iterator-lines).can_next l.lines;
  finite : (goal.iterator-lines).is_finite l.lines;
  names : names_behind l.names (rows l.lines.number (lines l.lines.rest.now)) ≡ names_of l.text;
  room : length l.names + total (lines l.lines.rest.now) ≤ length l.text;
}
