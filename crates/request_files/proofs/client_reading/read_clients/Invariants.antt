use Rattle.std.proofs.Common.{◌+◌, ◌≤◌, length}
use denote.Shadow.{shadow}
use denote.Text.{Utf8}
use Rattle.text_lines.specs.Text.{lines}
use Rattle.text_lines.specs.Rows.{rows}
use Rattle.text_lines.proofs.TextLemmas.{total}
use Rattle.request_files.specs.Clients.{without_marks}
use Rattle.request_files.specs.Entries.{AreWithin, requests_in}
use Rattle.request_files.proofs.ClientLemmas.{Counting}
use Rattle.request_files.proofs.RowLemmas.{Going}
use Rattle.request_files.proofs.client_reading.read_clients.Given as goal

abbrev pub invariant-lines : goal.invariant-lines
invariant-lines l = record {
  utf8 : shadow (Utf8 l.rest);
  going : Going l.fn.names l.checked (rows l.first (without_marks (lines l.text))) l.names (rows l.number (without_marks (lines l.rest))) (requests_in l.values.items l.found.items) l.tally;
  counting : Counting (lines l.text) l.counts.items l.mine (lines l.rest);
  within : AreWithin (length l.values.items) l.found.items;
  room : length l.names + total (lines l.rest) ≤ length l.fn.names + length l.text;
  number : l.number + length l.rest ≤ l.first + length l.text;
  mine : l.mine ≤ l.tally.requests;
}

abbrev pub decreases-lines : goal.decreases-lines
decreases-lines l = length l.rest
