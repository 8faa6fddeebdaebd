use Rattle.std.proofs.Common.{◌≡◌, ◌+◌, ◌<◌, ◌≤◌, ◌++◌, length}
use Rattle.std.specs.List.{AllByRecursion}
use Rattle.std.specs.Vec.{vec_capacity}
use Rattle.session_values.specs.Names.{Begins}
use Rattle.text_lines.specs.Text.{words}
use Rattle.trace_lines.specs.EventRows.{placed_literals}
use Rattle.trace_lines.specs.Placing.{IsPlaced, max_words, texts}
use Rattle.trace_lines.proofs.words.take_words.Given as goal

abbrev pub invariant-words : goal.invariant-words
invariant-words l = record {
  next : (goal.iterator-words).can_next l.line;
  finite : (goal.iterator-words).is_finite l.line;
  all : texts l.words.items ++ words l.line.rest.now ≡ words l.initial.line.rest.now;
  names : placed_literals l.names (words l.line.rest.now) ≡ placed_literals l.fn.names (words l.initial.line.rest.now);
  placed : AllByRecursion (IsPlaced l.names) l.words.items;
  kept : Begins l.fn.names l.names;
  room : length l.names + length (words l.line.rest.now) ≤ length l.fn.names + length (words l.initial.line.rest.now);
  few : length l.words.items < max_words;
  capacity : vec_capacity l.words ≡ vec_capacity l.fn.words;
}
