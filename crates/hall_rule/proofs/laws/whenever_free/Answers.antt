use Rattle.hall_rule.proofs.Free.{whenever}
use Rattle.hall_rule.proofs.laws.whenever_free.Goals as goal

pub returns : goal.returns
returns g c = whenever
