use Rattle.std.proofs.Common.{◌≡◌, ℕ, suc, ◌+◌, None, Some, sym, ap, ◌∙◌, take, subst, arith}
use Rattle.std.proofs.lemmas.Option.{slice_get-get_or}
use Rattle.driven_tickets.specs.declared.open_ticket.OpenTicket.{OpenTicket}
use Rattle.driven_tickets.specs.Tickets.{declared_in}
use Rattle.driven_tickets.proofs.Declared.{missed_next, same_ticket}
use Rattle.driven_tickets.proofs.place.place_of.Goals as goal

pub returns-then-tickets-i : goal.returns-then-tickets-i
returns-then-tickets-i c = record {
  within = c.loop-i-test.true;
  is = λ o q. same_ticket c.args.tickets.now c.args.ticket c.loop-i.i c.index-tickets-i.result o c.loop-i-test.true c.if-tickets-i.true q;
  first = c.loop-i.invariant;
}

pub loop-i-preserved : goal.loop-i-preserved
loop-i-preserved c =
    let e : suc c.loop-i.i ≡ c.loop-i.i + 1 = omega arith in
    let P : ℕ → Type 0 = λ j. declared_in (take j c.args.tickets.now) c.args.ticket ≡ None in
    subst P e (missed_next c.args.tickets.now c.args.ticket c.loop-i.i c.index-tickets-i.result
    (slice_get-get_or c.args.tickets.now c.loop-i.i c.index-tickets-i.result c.loop-i-test.true ∙ ap (λ (z : OpenTicket). Some z) (sym c.index-tickets-i.is)) c.loop-i.invariant
    (λ k. c.if-tickets-i.false (ap (λ (z : OpenTicket). z.ticket) (sym c.index-tickets-i.is) ∙ k)))
