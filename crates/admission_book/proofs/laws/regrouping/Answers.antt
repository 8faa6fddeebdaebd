use Rattle.admission_book.proofs.Foreknown.{regrouped_lawful}
use Rattle.admission_book.proofs.laws.regrouping.Goals as goal

pub returns-clause-replays : goal.returns-clause-replays
returns-clause-replays c = λ m b L. (regrouped_lawful m b L).replays

pub returns-clause-tables : goal.returns-clause-tables
returns-clause-tables c = λ m b L. (regrouped_lawful m b L).same
