use Rattle.std.proofs.Common.{◌≡◌, ◌+◌, ◌≤◌, length}
use Rattle.text_lines.specs.Text.{words}
use Rattle.text_lines.specs.Values.{placed_all}
use Rattle.range_tables.proofs.naming.place_all.Given as goal

abbrev pub invariant-words : goal.invariant-words
invariant-words l = record {
  names : placed_all l.names (words l.words.rest.now) ≡ placed_all l.fn.names (words l.initial.words.rest.now);
  room : length l.names + length (words l.words.rest.now) ≤ length l.fn.names + length (words l.initial.words.rest.now);
}

abbrev pub decreases-words : goal.decreases-words
decreases-words l = length (words l.words.rest.now)
