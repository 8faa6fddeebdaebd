use Rattle.std.proofs.Common.{take}
use Rattle.std.specs.List.{AllByRecursion}
use Rattle.driven_tickets.specs.declared.open_ticket.OpenTicket.{OpenTicket}
use Rattle.driven_tickets.specs.Tickets.{AllPairsCommute}
use Rattle.driven_tickets.proofs.open_tickets.OpenTickets.in_the_way.Given as goal

abbrev pub invariant-loop-o : goal.invariant-loop-o
invariant-loop-o l = AllByRecursion (λ (o : OpenTicket). AllPairsCommute l.list o.declared.symbols) (take l.o-index l.self.tickets)
