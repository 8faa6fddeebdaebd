use Rattle.std.proofs.Common.{◌<◌, length, subst, arith}
use Rattle.std.proofs.lemmas.Bool.Decides.{nat_tests}
use Rattle.driven_tickets.specs.Desk.{TicketsView}
use Rattle.driven_tickets.specs.Tickets.{IsOldestOpen}
use Rattle.driven_tickets.specs.contracts.open_tickets.OpenTickets.{the_view}
use Rattle.driven_tickets.proofs.Tickets.{oldest_at}
use Rattle.driven_tickets.proofs.open_tickets.OpenTickets.oldest.Goals as goal

pub returns : goal.returns
returns c =
    let k : TicketsView = the_view c.self.inside in
    let some : 0 < length k.tickets = grind (arith, nat_tests, c.is_empty.ensures, c.if-is_empty.false) in
    let Q : TicketsView → Type 0 = λ x. IsOldestOpen x.tickets c.index.result.now.ticket in
    subst Q c.self.view_is (oldest_at k.next k.tickets c.index.result.now c.self.invariant some c.index.ensures)
