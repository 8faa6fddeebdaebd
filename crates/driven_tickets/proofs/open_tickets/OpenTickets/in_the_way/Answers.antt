use Rattle.std.proofs.Common.{◌≡◌, List, ap, get_or, take, length, sym, subst, arith}
use Rattle.std.specs.List.{AllByRecursion}
use Rattle.std.proofs.lemmas.Bool.{both_ways}
use Rattle.std.proofs.lemmas.List.{take_all}
use Rattle.symbolic_ops.specs.declared.symbol.Symbol.{Symbol}
use Rattle.driven_tickets.specs.declared.open_ticket.OpenTicket.{OpenTicket}
use Rattle.driven_tickets.specs.Commuting.{IsClear, IsHeldUpBy}
use Rattle.driven_tickets.specs.Desk.{TicketsView}
use Rattle.driven_tickets.specs.Tickets.{AllPairsCommute}
use Rattle.driven_tickets.specs.contracts.open_tickets.OpenTickets.{the_view}
use Rattle.driven_tickets.proofs.InTheWay.{clear_of, held_up}
use Rattle.driven_tickets.proofs.open_tickets.OpenTickets.in_the_way.Goals as goal

pub returns-then-not-lists_commute : goal.returns-then-not-lists_commute
returns-then-not-lists_commute c =
    let k : TicketsView = the_view c.self.inside in
    let f = c.args.list.now in
    let o : OpenTicket = c.o-item.result in
    let P : TicketsView → Type 0 = λ x. IsHeldUpBy x f o.ticket in
    let A : TicketsView → Type 0 = λ x. AllByRecursion (λ (y : OpenTicket). AllPairsCommute f y.declared.symbols) (take c.loop-o.o-index x.tickets) in
    let L : List OpenTicket → Type 0 = λ l. o ≡ get_or l c.loop-o.o-index o in
    let M : List Symbol → Type 0 = λ g. AllPairsCommute f g in
    let long = ap (λ (l : List OpenTicket). length l) c.as_slice-o-items.ensures.value in
    subst P c.self.view_is (held_up k f c.loop-o.o-index o c.self.invariant (omega (arith, long, c.loop-o-test.true)) (subst L c.as_slice-o-items.ensures.value c.o-item.is)
    (subst A (sym c.self.view_is) c.loop-o.invariant)
    (λ h. both_ways c.lists_commute.result c.if-not-lists_commute.true (c.lists_commute.ensures.1 (subst M (sym c.symbols.ensures.symbols) h))))

pub returns : goal.returns
returns c =
    let k : TicketsView = the_view c.self.inside in
    let f = c.args.list.now in
    let P : TicketsView → Type 0 = λ x. IsClear x f in
    let A : TicketsView → Type 0 = λ x. AllByRecursion (λ (y : OpenTicket). AllPairsCommute f y.declared.symbols) (take c.loop-o.o-index x.tickets) in
    let long = ap (λ (l : List OpenTicket). length l) c.as_slice-o-items.ensures.value in
    let all : take c.loop-o.o-index k.tickets ≡ k.tickets = take_all c.loop-o.o-index k.tickets (omega (arith, long, c.loop-o-test.false)) in
    subst P c.self.view_is (λ t g is. clear_of f k.tickets (subst (AllByRecursion (λ (y : OpenTicket). AllPairsCommute f y.declared.symbols)) all (subst A (sym c.self.view_is) c.loop-o.invariant)) t g is)
