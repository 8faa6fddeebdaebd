use Rattle.std.proofs.Common.{◌≡◌, ◌+◌, length}
use Rattle.text_lines.specs.Text.{words}
use Rattle.live_session.proofs.arguments.count.Given as goal

abbrev pub invariant-words : goal.invariant-words
invariant-words l = record {
  next : (goal.iterator-words).can_next l.words;
  finite : (goal.iterator-words).is_finite l.words;
  counted : l.count + length (words l.words.rest.now) ≡ length (words l.initial.words.rest.now);
}
