use Rattle.std.proofs.Common.{subst, arith}
use Rattle.admission_book.specs.Kept.{IsLeastTicket}
use Rattle.admission_book.proofs.Oldest.{from_least, from_nothing}
use Rattle.admission_book.proofs.fields.next_oldest.Goals as goal

pub returns-in-Some-clause-from : goal.returns-in-Some-clause-from
returns-in-Some-clause-from c = from_least _ c.in-Some.t c.min.result (omega (arith, c.min.ensures)) (subst (IsLeastTicket _ _) c.in-Some.is c.least_ticket.ensures)

pub returns-in-None-clause-from : goal.returns-in-None-clause-from
returns-in-None-clause-from c = from_nothing _ c.args.begun (subst (IsLeastTicket _ _) c.in-None.is c.least_ticket.ensures)
