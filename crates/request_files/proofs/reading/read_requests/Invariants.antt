use Rattle.std.proofs.Common.{◌+◌, ◌≤◌, length}
use Rattle.text_lines.specs.Text.{lines}
use Rattle.request_files.specs.Entries.{AreWithin, requests_in}
use Rattle.text_lines.specs.Rows.{rows}
use Rattle.text_lines.proofs.TextLemmas.{total}
use Rattle.request_files.proofs.RowLemmas.{Going}
use Rattle.request_files.proofs.reading.read_requests.Given as goal

abbrev pub invariant-lines : goal.invariant-lines
invariant-lines l = record {
  next : (goal.iterator-lines).can_next l.lines;
  finite : (goal.iterator-lines).is_finite l.lines;
  going : Going l.fn.names l.checked (rows l.first (lines l.text)) l.names (rows l.lines.number (lines l.lines.rest.now)) (requests_in l.values.items l.found.items) l.tally;
  within : AreWithin (length l.values.items) l.found.items;
  room : length l.names + total (lines l.lines.rest.now) ≤ length l.fn.names + length l.text;
}
