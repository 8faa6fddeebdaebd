use Rattle.admission_book.proofs.Oldest.{least_more}
use Rattle.admission_book.proofs.fields.least_ticket.Goals as goal

pub loop-r-preserved : goal.loop-r-preserved
loop-r-preserved c = least_more _ _ _ _ _ c.loop-r-test.true c.r-item.is c.loop-r.invariant c.lesser-found.ensures
