use Rattle.admission_book.proofs.Blocks.{not_free, one_blocker, oldest_free}
use Rattle.admission_book.proofs.laws.blocking.Goals as goal

pub returns-clause-delayed : goal.returns-clause-delayed
returns-clause-delayed c = not_free

pub returns-clause-one : goal.returns-clause-one
returns-clause-one c = one_blocker

pub returns-clause-oldest : goal.returns-clause-oldest
returns-clause-oldest c = oldest_free
