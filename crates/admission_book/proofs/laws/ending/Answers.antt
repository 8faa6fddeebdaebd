use Rattle.admission_book.proofs.Foreknown.{all_ended}
use Rattle.admission_book.proofs.laws.ending.Goals as goal

pub returns : goal.returns
returns c = all_ended
