use Rattle.std.proofs.Common.{take}
use Rattle.driven_tickets.specs.Tickets.{IsSought}
use Rattle.driven_tickets.proofs.blocker.blocker.Given as goal

abbrev pub invariant-loop-o : goal.invariant-loop-o
invariant-loop-o l = IsSought l.op l.fn.ticket l.tickets (take l.o-index l.tickets) l.found l.limit
