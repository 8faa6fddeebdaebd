use Rattle.admission_book.proofs.Foreknown.{foreknown}
use Rattle.admission_book.proofs.laws.foreknowing.Goals as goal

pub returns : goal.returns
returns c = λ m b t S L l. foreknown m b S L t l
