use Rattle.std.proofs.Common.{refl}
use Rattle.admission_book.proofs.caller_record.CallerRecord.enter.Goals as goal

pub returns : goal.returns
returns c = λ m. record { ticket = refl; foresight = c.take.ensures m; flight = refl; delayed = refl }
