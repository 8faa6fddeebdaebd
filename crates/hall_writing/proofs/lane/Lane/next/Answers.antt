-- A message that is taken out keeps the rule.
use Rattle.hall_writing.proofs.Carrying.{takes_out, learns}
use Rattle.hall_writing.proofs.lane.Lane.next.Goals as goal

pub pop_as-requires-clause-rule : goal.pop_as-requires-clause-rule
pop_as-requires-clause-rule g c = (takes_out _ _ c.requires.end.1, learns _ _)
