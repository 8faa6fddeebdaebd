use Rattle.hall_rule.proofs.Counting.{counted}
use Rattle.hall_rule.proofs.laws.counting.Goals as goal

pub returns : goal.returns
returns g c = counted
