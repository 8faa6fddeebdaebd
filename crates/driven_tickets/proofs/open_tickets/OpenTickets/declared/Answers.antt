use Rattle.std.proofs.Common.{◌≡◌, List, Some, sym, ◌∙◌, ap, subst}
use Rattle.symbolic_ops.specs.declared.symbol.Symbol.{Symbol}
use Rattle.driven_tickets.specs.declared.open_ticket.OpenTicket.{OpenTicket}
use Rattle.driven_tickets.specs.Desk.{TicketsView}
use Rattle.driven_tickets.specs.Tickets.{IsAt, declared_in}
use Rattle.driven_tickets.specs.contracts.open_tickets.OpenTickets.{the_view}
use Rattle.driven_tickets.proofs.Declared.{found}
use Rattle.driven_tickets.proofs.open_tickets.OpenTickets.declared.Goals as goal

pub returns-in-Some : goal.returns-in-Some
returns-in-Some c =
    let k : TicketsView = the_view c.self.inside in
    let t = c.args.ticket in
    let r : OpenTicket = c.index.result.now in
    let A : List OpenTicket → Type 0 = λ l. IsAt l t c.in-Some.place in
    let at : IsAt k.tickets t c.in-Some.place = subst A c.as_slice.ensures.value c.in-Some.ensures in
    let Q : TicketsView → Type 0 = λ x. declared_in x.tickets t ≡ Some c.symbols.result.now in
    subst Q c.self.view_is (found k.tickets t c.in-Some.place r at c.index.ensures ∙ ap (λ (l : List Symbol). Some l) (sym c.symbols.ensures.symbols))
