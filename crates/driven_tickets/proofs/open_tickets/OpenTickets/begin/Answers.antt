use Rattle.std.proofs.Common.{◌+◌, ◌<◌, ◌∷◌, [], ◌++◌, List, refl, ap, ◌∙◌, subst, arith}
use Rattle.session_values.specs.Tables.{Tables}
use Rattle.driven_tickets.specs.declared.history.History.{History}
use Rattle.driven_tickets.specs.declared.open_ticket.OpenTicket.{OpenTicket}
use Rattle.driven_tickets.specs.Acts.{Begins}
use Rattle.driven_tickets.specs.Desk.{HasActed, TicketsView, desk_over, last_number}
use Rattle.driven_tickets.specs.contracts.open_tickets.OpenTickets.{the_view}
use Rattle.driven_tickets.proofs.Keeping.{Acted, begun}
use Rattle.driven_tickets.proofs.open_tickets.OpenTickets.begin.Goals as goal

pub invariant_of-self-2 : goal.invariant_of-self-2
invariant_of-self-2 c =
    let k : TicketsView = the_view c.self.inside in
    let o : OpenTicket = record { ticket = c.self.inside.next; declared = c.args.declared } in
    let e : TicketsView = record {
      next = c.self.inside.next + 1;
      tickets = c.push_reserved.new.self.items;
      acts = c.begun-self-inside.result.acts;
    } in
    let done : Acted (desk_over [] [] k) (desk_over [] [] e) (Begins o.declared.symbols) =
    begun (desk_over [] [] k) (desk_over [] [] e) c.self.invariant refl o
    (ap (λ (h : History). h.acts) c.begun-self-inside.ensures) refl (omega arith)
    (c.push_reserved.ensures.items ∙ ap (λ (l : List OpenTicket). l ++ o ∷ []) c.in-Ok.ensures.items) refl in
    done.ascending

pub returns : goal.returns
returns c =
    let k : TicketsView = the_view c.self.inside in
    let o : OpenTicket = record { ticket = c.self.inside.next; declared = c.args.declared } in
    let e : TicketsView = record {
      next = c.self.inside.next + 1;
      tickets = c.push_reserved.new.self.items;
      acts = c.begun-self-inside.result.acts;
    } in
    let done : (opening ts : Tables) → Acted (desk_over opening ts k) (desk_over opening ts e) (Begins o.declared.symbols) = λ opening ts.
    begun (desk_over opening ts k) (desk_over opening ts e) c.self.invariant refl o
    (ap (λ (h : History). h.acts) c.begun-self-inside.ensures) refl (omega arith)
    (c.push_reserved.ensures.items ∙ ap (λ (l : List OpenTicket). l ++ o ∷ []) c.in-Ok.ensures.items) refl in
    let P : TicketsView → Type 0 = λ x. (opening ts : Tables) → HasActed (desk_over opening ts x) (desk_over opening ts e) (Begins o.declared.symbols) in
    let low : c.self.inside.next < last_number = omega arith in
    let acted = subst P c.self.view_is (λ opening ts. (done opening ts).acted) in
    record {
      begun = λ opening ts. (ap (λ (x : TicketsView). x.next) c.self.view_is, low, acted opening ts);
      ascending = (done [] []).ascending;
    }
