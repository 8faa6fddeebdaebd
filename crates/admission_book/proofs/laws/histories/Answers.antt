use Rattle.admission_book.proofs.Histories.{told}
use Rattle.admission_book.proofs.laws.histories.Goals as goal

pub returns : goal.returns
returns c = λ m b t L. told m _ t b.journal L.turns
