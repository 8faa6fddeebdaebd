use Rattle.admission_book.proofs.Delayed.{delayed_then}
use Rattle.admission_book.proofs.laws.delays.Goals as goal

pub returns : goal.returns
returns c = delayed_then
