use Rattle.hall_rule.proofs.Halls.{opened_tied}
use Rattle.hall_rule.proofs.laws.opening.Goals as goal

pub returns : goal.returns
returns g c = opened_tied
