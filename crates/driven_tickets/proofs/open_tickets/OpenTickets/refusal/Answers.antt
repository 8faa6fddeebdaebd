use Rattle.std.proofs.Common.{List, sym, subst}
use Rattle.session_values.specs.Tables.{Tables}
use Rattle.symbolic_ops.specs.declared.symbol.Symbol.{Symbol}
use Rattle.symbolic_ops.specs.Matching.{Matches}
use Rattle.std.proofs.lemmas.Bool.{both_ways}
use Rattle.driven_tickets.specs.declared.open_ticket.OpenTicket.{OpenTicket}
use Rattle.driven_tickets.specs.Acts.{IsFree}
use Rattle.driven_tickets.specs.Desk.{IsDeclared, IsDelayedBy, IsOpen, IsUndeclared, TicketsView, desk_over, state_of}
use Rattle.driven_tickets.specs.Tickets.{AreFreeBelow, IsAt, IsLeastAgainst}
use Rattle.driven_tickets.specs.contracts.open_tickets.OpenTickets.{the_view}
use Rattle.driven_tickets.proofs.Declared.{found, free_of}
use Rattle.driven_tickets.proofs.Delays.{delayed_by}
use Rattle.driven_tickets.proofs.Tickets.{Opened, open_at}
use Rattle.driven_tickets.proofs.open_tickets.OpenTickets.refusal.Goals as goal

pub returns-then-not-fits : goal.returns-then-not-fits
returns-then-not-fits c =
    let k : TicketsView = the_view c.self.inside in
    let t = c.args.ticket in
    let A : List OpenTicket → Type 0 = λ l. IsAt l t c.in-Some.place in
    let at : IsAt k.tickets t c.in-Some.place = subst A c.as_slice.ensures.value c.in-Some.ensures in
    let one : Opened k.tickets t = open_at k.tickets t c.in-Some.place at in
    let Q : TicketsView → Type 0 = λ x. (opening ts : Tables) → IsOpen (desk_over opening ts x) t in
    let opened = subst Q c.self.view_is (λ opening ts. record { list = one.list; is = one.is }) in
    λ opening ts. (c.if-not-fits.true, opened opening ts)

pub returns-then-not-is_declared : goal.returns-then-not-is_declared
returns-then-not-is_declared c =
    let k : TicketsView = the_view c.self.inside in
    let t = c.args.ticket in
    let r : OpenTicket = c.index.result.now in
    let A : List OpenTicket → Type 0 = λ l. IsAt l t c.in-Some.place in
    let at : IsAt k.tickets t c.in-Some.place = subst A c.as_slice.ensures.value c.in-Some.ensures in
    let M : List Symbol → Type 0 = λ f. Matches f c.args.op.now in
    let Q : TicketsView → Type 0 = λ x. (opening ts : Tables) → IsUndeclared (desk_over opening ts x) t c.args.op.now in
    let un = subst Q c.self.view_is (λ opening ts. record {
      list = r.declared.symbols;
      is = found k.tickets t c.in-Some.place r at c.index.ensures;
      missing = λ m. both_ways c.is_declared.result c.if-not-is_declared.true (c.is_declared.ensures.1 (subst M (sym c.symbols.ensures.symbols) m));
    }) in
    λ opening ts. (c.if-not-fits.false, un opening ts)

pub returns-in-Some-blocker : goal.returns-in-Some-blocker
returns-in-Some-blocker c =
    let k : TicketsView = the_view c.self.inside in
    let t = c.args.ticket in
    let r : OpenTicket = c.index.result.now in
    let A : List OpenTicket → Type 0 = λ l. IsAt l t c.in-Some.place in
    let at : IsAt k.tickets t c.in-Some.place = subst A c.as_slice.ensures.value c.in-Some.ensures in
    let M : List Symbol → Type 0 = λ f. Matches f c.args.op.now in
    let L : List OpenTicket → Type 0 = λ l. IsLeastAgainst c.args.op.now t l c.in-Some-blocker.older in
    let Q : TicketsView → Type 0 = λ x. (opening ts : Tables) → IsDeclared (desk_over opening ts x) t c.args.op.now in
    let R : TicketsView → Type 0 = λ x. (opening ts : Tables) → IsDelayedBy (desk_over opening ts x) t c.args.op.now c.in-Some-blocker.older in
    let declares = subst Q c.self.view_is (λ opening ts. record {
      list = r.declared.symbols;
      is = found k.tickets t c.in-Some.place r at c.index.ensures;
      matches = subst M c.symbols.ensures.symbols (c.is_declared.ensures.0 c.if-not-is_declared.false);
    }) in
    let delays = subst R c.self.view_is (λ opening ts. delayed_by (desk_over opening ts k) t c.args.op.now c.in-Some-blocker.older c.self.invariant
    (subst L c.as_slice-2.ensures.value c.in-Some-blocker.ensures)) in
    λ opening ts. (c.if-not-fits.false, declares opening ts, delays opening ts)

pub returns-in-None : goal.returns-in-None
returns-in-None c =
    let k : TicketsView = the_view c.self.inside in
    let t = c.args.ticket in
    let r : OpenTicket = c.index.result.now in
    let A : List OpenTicket → Type 0 = λ l. IsAt l t c.in-Some.place in
    let at : IsAt k.tickets t c.in-Some.place = subst A c.as_slice.ensures.value c.in-Some.ensures in
    let M : List Symbol → Type 0 = λ f. Matches f c.args.op.now in
    let F : List OpenTicket → Type 0 = λ l. AreFreeBelow c.args.op.now t l in
    let Q : TicketsView → Type 0 = λ x. (opening ts : Tables) → IsDeclared (desk_over opening ts x) t c.args.op.now in
    let R : TicketsView → Type 0 = λ x. (opening ts : Tables) → IsFree (state_of (desk_over opening ts x)) t c.args.op.now in
    let declares = subst Q c.self.view_is (λ opening ts. record {
      list = r.declared.symbols;
      is = found k.tickets t c.in-Some.place r at c.index.ensures;
      matches = subst M c.symbols.ensures.symbols (c.is_declared.ensures.0 c.if-not-is_declared.false);
    }) in
    let free = subst R c.self.view_is (λ opening ts. free_of c.args.op.now t k.tickets (subst F c.as_slice-2.ensures.value c.in-None.ensures)) in
    λ opening ts. (c.if-not-fits.false, declares opening ts, free opening ts)
