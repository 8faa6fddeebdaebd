use Rattle.std.proofs.Common.{subst}
use Rattle.driven_tickets.specs.Desk.{DeskView, NarrowedAs, desk_over}
use Rattle.driven_tickets.specs.contracts.driven_tables.DrivenTables.{the_view}
use Rattle.driven_tickets.proofs.Following.{after_narrowed}
use Rattle.driven_tickets.proofs.driven_tables.DrivenTables.narrow.Goals as goal

pub invariant_of-self : goal.invariant_of-self
invariant_of-self c =
    let d : DeskView = the_view c.self.inside in
    let e : DeskView = desk_over d.opening d.tables c.narrow.new.self in
    after_narrowed d e c.args.ticket c.args.declared.symbols c.narrow.result c.self.invariant (c.narrow.ensures.narrowed d.opening d.tables) c.narrow.ensures.ascending

pub returns : goal.returns
returns c =
    let d : DeskView = the_view c.self.inside in
    let e : DeskView = desk_over d.opening d.tables c.narrow.new.self in
    let P : DeskView → Type 0 = λ x. NarrowedAs x e c.args.ticket c.args.declared.symbols c.narrow.result in
    subst P c.self.view_is (c.narrow.ensures.narrowed d.opening d.tables)
