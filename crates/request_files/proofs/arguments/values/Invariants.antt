use Rattle.std.proofs.Common.{length}
use Rattle.text_lines.specs.Text.{words}
use Rattle.text_lines.proofs.ValueLemmas.{Behind}
use Rattle.request_files.proofs.arguments.values.Given as goal

abbrev pub invariant-words : goal.invariant-words
invariant-words l = Behind l.fn.names (words l.initial.words.rest.now) l.names (words l.words.rest.now) l.fn.list.items l.list.items

abbrev pub decreases-words : goal.decreases-words
decreases-words l = length (words l.words.rest.now)
