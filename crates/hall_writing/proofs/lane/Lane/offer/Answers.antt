-- A message that is put in keeps the rule.
use Rattle.hall_writing.proofs.Carrying.{puts_in, learns}
use Rattle.hall_writing.proofs.lane.Lane.offer.Goals as goal

pub push_as-requires-clause-rule : goal.push_as-requires-clause-rule
push_as-requires-clause-rule g c = (puts_in _ c.args.self.now.room _ _ _ c.requires.end.1 c.requires.spoken, learns _ _)
