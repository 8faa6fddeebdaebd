use Rattle.admission_book.specs.Kept.{IsLeastTicket}
use Rattle.admission_book.proofs.fields.least_ticket.Given as goal

abbrev pub invariant-loop-r : goal.invariant-loop-r
invariant-loop-r l = IsLeastTicket l.records l.r-index l.found
