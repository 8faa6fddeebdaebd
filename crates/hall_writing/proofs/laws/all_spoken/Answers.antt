-- The list of the rule is the one that is known.
use Rattle.hall_writing.proofs.Carrying.{spoken_known}
use Rattle.hall_writing.proofs.laws.all_spoken.Goals as goal

pub returns : goal.returns
returns c = spoken_known
