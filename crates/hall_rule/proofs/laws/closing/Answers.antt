use Rattle.hall_rule.proofs.Halls.{all_ended}
use Rattle.hall_rule.proofs.laws.closing.Goals as goal

pub returns : goal.returns
returns g c = all_ended
