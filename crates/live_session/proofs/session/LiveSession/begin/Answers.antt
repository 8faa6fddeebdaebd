use Rattle.std.proofs.Common.{◌≡◌, Ok, Err, refl, sym, ap, subst}
use Rattle.driven_tickets.specs.Desk.{DeskView, TicketsView, desk_over}
use Rattle.driven_tickets.proofs.Following.{after_begun}
use Rattle.live_session.specs.Driven.{BeginAnswered}
use Rattle.live_session.specs.Live.{IsLive, LiveView, desk_in}
use Rattle.live_session.specs.contracts.session.LiveSession.{the_view}
use Rattle.live_session.proofs.DrivenActs.{acted, acted_live, same_tickets, unbegun_still, with_history}
use Rattle.live_session.proofs.session.LiveSession.begin.Goals as goal

pub invariant_of-self : goal.invariant_of-self
invariant_of-self c =
    let v : LiveView = the_view c.self.inside in
    let d : DeskView = desk_in v in
    let k : TicketsView = c.begin.new.self in
    let is : with_history v v.names v.tables k c.drove-self-inside.result ≡ acted v v.tables k = ap (with_history v v.names v.tables k) c.drove-self-inside.ensures in
    let desk = after_begun d (desk_over d.opening d.tables k) c.args.declared.symbols (Ok c.in-Ok.ticket) c.self.invariant.0.desk (c.in-Ok.ensures.begun d.opening d.tables) c.begin.ensures.ascending in
    (subst IsLive (sym is) (acted_live v v.tables k c.self.invariant.0 c.self.invariant.0.prints desk), c.self.invariant.1)

pub returns-in-Ok : goal.returns-in-Ok
returns-in-Ok c =
    let v : LiveView = the_view c.self.inside in
    let d : DeskView = desk_in v in
    let k : TicketsView = c.begin.new.self in
    let w : LiveView = with_history v v.names v.tables k c.drove-self-inside.result in
    let is : w ≡ acted v v.tables k = ap (with_history v v.names v.tables k) c.drove-self-inside.ensures in
    let P : LiveView → Type 0 = λ x. BeginAnswered x w c.args.declared.symbols (Ok c.in-Ok.ticket) in
    let Q : LiveView → Type 0 = λ x. BeginAnswered v x c.args.declared.symbols (Ok c.in-Ok.ticket) in
    subst P c.self.view_is (subst Q (sym is) (c.in-Ok.ensures.begun d.opening d.tables, refl))

pub invariant_of-self-in-Err : goal.invariant_of-self-in-Err
invariant_of-self-in-Err c =
    let v : LiveView = the_view c.self.inside in
    let d : DeskView = desk_in v in
    let k : TicketsView = c.begin.new.self in
    let same : k ≡ v.tickets = same_tickets d.opening d.tables k v.tickets (unbegun_still d (desk_over d.opening d.tables k) c.args.declared.symbols c.in-Err.why (c.in-Err.ensures.begun d.opening d.tables)) in
    let P : TicketsView → Type 0 = λ x. IsLive (record v { tickets = x }) in
    (subst P (sym same) c.self.invariant.0, c.self.invariant.1)

pub returns-in-Err : goal.returns-in-Err
returns-in-Err c =
    let v : LiveView = the_view c.self.inside in
    let d : DeskView = desk_in v in
    let k : TicketsView = c.begin.new.self in
    let w : LiveView = record v { tickets = k } in
    let same : k ≡ v.tickets = same_tickets d.opening d.tables k v.tickets (unbegun_still d (desk_over d.opening d.tables k) c.args.declared.symbols c.in-Err.why (c.in-Err.ensures.begun d.opening d.tables)) in
    let P : LiveView → Type 0 = λ x. BeginAnswered x w c.args.declared.symbols (Err c.in-Err.why) in
    subst P c.self.view_is (c.in-Err.ensures.begun d.opening d.tables, ap (λ (x : TicketsView). record v { tickets = x }) same)
