use Rattle.std.proofs.Common.{◌≡◌, ◌+◌, ◌≤◌, length}
use denote.Shadow.{shadow}
use denote.Text.{Utf8}
use Rattle.text_lines.specs.Text.{lines}
use Rattle.request_files.specs.Clients.{marks_in}
use Rattle.request_files.proofs.client_lines.count_marks.Given as goal

abbrev pub invariant-lines : goal.invariant-lines
invariant-lines l = record {
  utf8 : shadow (Utf8 l.rest);
  marks : l.marks + marks_in (lines l.rest) ≡ marks_in (lines l.text);
  few : l.marks + length l.rest ≤ length l.text;
}

abbrev pub decreases-lines : goal.decreases-lines
decreases-lines l = length l.rest
