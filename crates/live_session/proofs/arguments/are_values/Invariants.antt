use Rattle.std.proofs.Common.{◌≡◌}
use Rattle.std.specs.List.{list_all}
use Rattle.text_lines.specs.Text.{words}
use Rattle.text_lines.specs.Values.{is_value}
use Rattle.live_session.proofs.arguments.are_values.Given as goal

abbrev pub invariant-words : goal.invariant-words
invariant-words l = record {
  next : (goal.iterator-words).can_next l.words;
  finite : (goal.iterator-words).is_finite l.words;
  same : list_all is_value (words l.words.rest.now) ≡ list_all is_value (words l.initial.words.rest.now);
}
