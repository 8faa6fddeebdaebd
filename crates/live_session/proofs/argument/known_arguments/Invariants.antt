use Rattle.std.proofs.Common.{◌≡◌, ◌+◌, length, drop, vec_capacity}
use Rattle.text_lines.proofs.ValueLemmas.{Behind}
use Rattle.live_session.specs.ArgumentWords.{words_of}
use Rattle.live_session.proofs.argument.known_arguments.Given as goal

abbrev pub invariant-loop-argument : goal.invariant-loop-argument
invariant-loop-argument l = record {
  behind : Behind l.names (words_of l.names l.arguments) l.names (words_of l.names (drop l.argument-index l.arguments)) l.fn.list.items l.list.items;
  count : length l.list.items ≡ length l.fn.list.items + l.argument-index;
  capacity : vec_capacity l.list ≡ vec_capacity l.fn.list;
}
