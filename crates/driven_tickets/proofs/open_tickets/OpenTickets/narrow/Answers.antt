use Rattle.std.proofs.Common.{[], List, set, refl, ap, subst}
use Rattle.std.proofs.lemmas.Bool.{both_ways}
use Rattle.session_values.specs.Tables.{Tables}
use Rattle.driven_tickets.specs.declared.history.History.{History}
use Rattle.driven_tickets.specs.declared.open_ticket.OpenTicket.{OpenTicket}
use Rattle.driven_tickets.specs.Acts.{Narrows}
use Rattle.driven_tickets.specs.Desk.{HasActed, IsUncovered, TicketsView, desk_over}
use Rattle.driven_tickets.specs.Tickets.{AreAscending, IsAt}
use Rattle.driven_tickets.specs.contracts.open_tickets.OpenTickets.{the_view}
use Rattle.driven_tickets.proofs.Declared.{found, found_ticket}
use Rattle.driven_tickets.proofs.Keeping.{Acted, narrowed}
use Rattle.driven_tickets.proofs.open_tickets.OpenTickets.narrow.Goals as goal

pub returns-then-not-covered : goal.returns-then-not-covered
returns-then-not-covered c =
    let k : TicketsView = the_view c.self.inside in
    let t = c.args.ticket in
    let i = c.in-Some.place in
    let A : List OpenTicket → Type 0 = λ l. IsAt l t i in
    let at : IsAt k.tickets t i = subst A c.as_slice.ensures.value c.in-Some.ensures in
    let r : OpenTicket = c.index.result.now in
    let P : TicketsView → Type 0 = λ x. (opening ts : Tables) → IsUncovered (desk_over opening ts x) t c.args.declared.symbols in
    let W : TicketsView → Type 0 = λ x. AreAscending 0 x.tickets x.next in
    let un = subst P c.self.view_is (λ opening ts. record {
      list = r.declared.symbols;
      is = found k.tickets t i r at c.index.ensures;
      uncovered = λ h. both_ways c.covered.result c.if-not-covered.true (c.covered.ensures.1 h);
    }) in
    record { narrowed = λ opening ts. (refl, un opening ts); ascending = subst W c.self.view_is c.self.invariant }

pub invariant_of-self : goal.invariant_of-self
invariant_of-self c =
    let k : TicketsView = the_view c.self.inside in
    let t = c.args.ticket in
    let i = c.in-Some.place in
    let A : List OpenTicket → Type 0 = λ l. IsAt l t i in
    let at : IsAt k.tickets t i = subst A c.as_slice.ensures.value c.in-Some.ensures in
    let r : OpenTicket = c.index.result.now in
    let w : OpenTicket = c.index_mut.result.now in
    let o : OpenTicket = record { ticket = w.ticket; declared = c.args.declared } in
    let e : TicketsView = record k { tickets = set k.tickets i o; acts = c.narrowed-self-inside.result.acts } in
    let done : Acted (desk_over [] [] k) (desk_over [] [] e) (Narrows t o.declared.symbols) =
    narrowed (desk_over [] [] k) (desk_over [] [] e) c.self.invariant refl t i o r.declared.symbols
    (ap (λ (h : History). h.acts) c.narrowed-self-inside.ensures) refl refl refl at
    (found_ticket k.tickets t i w at c.index_mut.ensures.value) (found k.tickets t i r at c.index.ensures)
    (c.covered.ensures.0 c.if-not-covered.false) in
    done.ascending

pub returns : goal.returns
returns c =
    let k : TicketsView = the_view c.self.inside in
    let t = c.args.ticket in
    let i = c.in-Some.place in
    let A : List OpenTicket → Type 0 = λ l. IsAt l t i in
    let at : IsAt k.tickets t i = subst A c.as_slice.ensures.value c.in-Some.ensures in
    let r : OpenTicket = c.index.result.now in
    let w : OpenTicket = c.index_mut.result.now in
    let o : OpenTicket = record { ticket = w.ticket; declared = c.args.declared } in
    let e : TicketsView = record k { tickets = set k.tickets i o; acts = c.narrowed-self-inside.result.acts } in
    let done : (opening ts : Tables) → Acted (desk_over opening ts k) (desk_over opening ts e) (Narrows t o.declared.symbols) = λ opening ts.
    narrowed (desk_over opening ts k) (desk_over opening ts e) c.self.invariant refl t i o r.declared.symbols
    (ap (λ (h : History). h.acts) c.narrowed-self-inside.ensures) refl refl refl at
    (found_ticket k.tickets t i w at c.index_mut.ensures.value) (found k.tickets t i r at c.index.ensures)
    (c.covered.ensures.0 c.if-not-covered.false) in
    let P : TicketsView → Type 0 = λ x. (opening ts : Tables) → HasActed (desk_over opening ts x) (desk_over opening ts e) (Narrows t o.declared.symbols) in
    record { narrowed = subst P c.self.view_is (λ opening ts. (done opening ts).acted); ascending = (done [] []).ascending }
