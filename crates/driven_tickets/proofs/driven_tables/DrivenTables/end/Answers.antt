use Rattle.std.proofs.Common.{subst}
use Rattle.driven_tickets.specs.Desk.{DeskView, EndedAs, desk_over}
use Rattle.driven_tickets.specs.contracts.driven_tables.DrivenTables.{the_view}
use Rattle.driven_tickets.proofs.Following.{after_ended}
use Rattle.driven_tickets.proofs.driven_tables.DrivenTables.end.Goals as goal

pub invariant_of-self : goal.invariant_of-self
invariant_of-self c =
    let d : DeskView = the_view c.self.inside in
    let e : DeskView = desk_over d.opening d.tables c.end.new.self in
    after_ended d e c.args.ticket c.end.result c.self.invariant (c.end.ensures.ended d.opening d.tables) c.end.ensures.ascending

pub returns : goal.returns
returns c =
    let d : DeskView = the_view c.self.inside in
    let e : DeskView = desk_over d.opening d.tables c.end.new.self in
    let P : DeskView → Type 0 = λ x. EndedAs x e c.args.ticket c.end.result in
    subst P c.self.view_is (c.end.ensures.ended d.opening d.tables)
