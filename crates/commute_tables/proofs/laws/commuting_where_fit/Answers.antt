use Rattle.commute_tables.proofs.TellingApart.{everywhere}
use Rattle.commute_tables.proofs.laws.commuting_where_fit.Goals as goal

pub returns : goal.returns
returns c = everywhere
