use Rattle.admission_book.proofs.Room.{few_events}
use Rattle.admission_book.proofs.Keys.{keys_few, keys_fewer}
use Rattle.admission_book.proofs.laws.bounds.Goals as goal

pub returns-clause-events : goal.returns-clause-events
returns-clause-events c = few_events

pub returns-clause-keys : goal.returns-clause-keys
returns-clause-keys c = λ m b i S L. keys_few m b S L i

pub returns-clause-fewer : goal.returns-clause-fewer
returns-clause-fewer c = λ m b t op S L. keys_fewer m b S L t op
