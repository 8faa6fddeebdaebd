use Rattle.std.proofs.Common.{◌≡◌, ◌++◌, map}
use Rattle.text_lines.specs.Text.{words}
use Rattle.range_tables.specs.Words.{word_of}
use Rattle.range_tables.proofs.taking.words_of_line.Given as goal

abbrev pub invariant-words : goal.invariant-words
invariant-words l = record {
  next : (goal.iterator-words).can_next l.words;
  finite : (goal.iterator-words).is_finite l.words;
  found : l.found.items ++ map (word_of l.names) (words l.words.rest.now) ≡ map (word_of l.names) (words l.initial.words.rest.now);
}
