use Rattle.std.proofs.Common.{◌≡◌, ◌+◌, ◌≤◌, length, vec_capacity}
use Rattle.text_lines.specs.Text.{words}
use Rattle.text_lines.proofs.ValueLemmas.{Behind}
use Rattle.live_session.proofs.arguments.placed_values.Given as goal

abbrev pub invariant-words : goal.invariant-words
invariant-words l = record {
  behind : Behind l.fn.names (words l.initial.words.rest.now) l.names (words l.words.rest.now) l.fn.list.items l.list.items;
  room : length l.list.items + length (words l.words.rest.now) ≤ vec_capacity l.list;
  capacity : vec_capacity l.list ≡ vec_capacity l.fn.list;
}

abbrev pub decreases-words : goal.decreases-words
decreases-words l = length (words l.words.rest.now)
