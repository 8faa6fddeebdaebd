use Rattle.std.proofs.Common.{refl}
use Rattle.admission_book.proofs.caller_record.CallerRecord.finish.Goals as goal

pub returns-clause-finished : goal.returns-clause-finished
returns-clause-finished c = λ m. record { ticket = refl; foresight = c.take.ensures m; flight = refl; delayed = refl }
