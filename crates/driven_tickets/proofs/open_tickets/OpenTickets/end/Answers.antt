use Rattle.std.proofs.Common.{[], List, refl, ap, subst}
use Rattle.session_values.specs.Tables.{Tables}
use Rattle.driven_tickets.specs.declared.history.History.{History}
use Rattle.driven_tickets.specs.declared.open_ticket.OpenTicket.{OpenTicket}
use Rattle.driven_tickets.specs.Acts.{Ends}
use Rattle.driven_tickets.specs.Desk.{HasActed, TicketsView, desk_over}
use Rattle.driven_tickets.specs.Tickets.{IsAt}
use Rattle.driven_tickets.specs.contracts.open_tickets.OpenTickets.{the_view}
use Rattle.driven_tickets.proofs.Keeping.{Acted, ended}
use Rattle.driven_tickets.proofs.Tickets.{Opened, open_at}
use Rattle.driven_tickets.proofs.open_tickets.OpenTickets.end.Goals as goal

pub invariant_of-self : goal.invariant_of-self
invariant_of-self c =
    let k : TicketsView = the_view c.self.inside in
    let t = c.args.ticket in
    let i = c.in-Some.place in
    let e : TicketsView = record k { tickets = c.remove.new.self.items; acts = c.ended-self-inside.result.acts } in
    let A : List OpenTicket → Type 0 = λ l. IsAt l t i in
    let at : IsAt k.tickets t i = subst A c.as_slice.ensures.value c.in-Some.ensures in
    let one : Opened k.tickets t = open_at k.tickets t i at in
    let done : Acted (desk_over [] [] k) (desk_over [] [] e) (Ends t) =
    ended (desk_over [] [] k) (desk_over [] [] e) c.self.invariant refl t i one.list
    (ap (λ (h : History). h.acts) c.ended-self-inside.ensures) refl refl c.remove.ensures.items at one.is in
    done.ascending

pub returns : goal.returns
returns c =
    let k : TicketsView = the_view c.self.inside in
    let t = c.args.ticket in
    let i = c.in-Some.place in
    let e : TicketsView = record k { tickets = c.remove.new.self.items; acts = c.ended-self-inside.result.acts } in
    let A : List OpenTicket → Type 0 = λ l. IsAt l t i in
    let at : IsAt k.tickets t i = subst A c.as_slice.ensures.value c.in-Some.ensures in
    let one : Opened k.tickets t = open_at k.tickets t i at in
    let done : (opening ts : Tables) → Acted (desk_over opening ts k) (desk_over opening ts e) (Ends t) = λ opening ts.
    ended (desk_over opening ts k) (desk_over opening ts e) c.self.invariant refl t i one.list
    (ap (λ (h : History). h.acts) c.ended-self-inside.ensures) refl refl c.remove.ensures.items at one.is in
    let P : TicketsView → Type 0 = λ x. (opening ts : Tables) → HasActed (desk_over opening ts x) (desk_over opening ts e) (Ends t) in
    record { ended = subst P c.self.view_is (λ opening ts. (done opening ts).acted); ascending = (done [] []).ascending }
