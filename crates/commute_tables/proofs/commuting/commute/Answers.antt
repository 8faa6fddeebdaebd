use Rattle.std.proofs.Common.{rules}
use Rattle.commute_tables.proofs.TellingApart.{decided, Decides-commute}
use Rattle.commute_tables.proofs.commuting.commute.Goals as goal

pub returns-clause-exact : goal.returns-clause-exact
returns-clause-exact c = search (rules, Decides-commute)

pub returns-clause-told : goal.returns-clause-told
returns-clause-told c = search (rules, decided)
