use Rattle.std.proofs.Common.{◌≡◌, ◌+◌, ◌≤◌, List, length, vec_capacity}
use Rattle.session_values.specs.Names.{Begins}
use Rattle.text_lines.specs.Rows.{rows}
use Rattle.text_lines.specs.Text.{Text, lines}
use Rattle.text_lines.proofs.TextLemmas.{total}
use Rattle.trace_lines.specs.EventRows.{names_after}
use Rattle.trace_lines.specs.Placing.{max_words}
use Rattle.trace_lines.proofs.Rows.{Going}
use Rattle.trace_lines.proofs.trace_part.events_of.Given as goal

abbrev pub invariant-lines : goal.invariant-lines
invariant-lines l = record {
  next : (goal.iterator-lines).can_next l.lines;
  finite : (goal.iterator-lines).is_finite l.lines;
  going : (later : List Text) → Begins l.names later → Going later l.tables.places.now l.tables.kinds.now (rows l.first (lines l.text)) (rows l.lines.number (lines l.lines.rest.now)) l.trace;
  names : names_after l.names (rows l.lines.number (lines l.lines.rest.now)) ≡ names_after l.fn.names (rows l.first (lines l.text));
  begins : Begins l.fn.names l.names;
  room : length l.names + total (lines l.lines.rest.now) ≤ length l.fn.names + length l.text;
  capacity : max_words ≤ vec_capacity l.kept;
}
