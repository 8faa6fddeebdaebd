use Rattle.std.proofs.Common.{subst}
use Rattle.driven_tickets.specs.Desk.{DeskView, BegunAs, desk_over}
use Rattle.driven_tickets.specs.contracts.driven_tables.DrivenTables.{the_view}
use Rattle.driven_tickets.proofs.Following.{after_begun}
use Rattle.driven_tickets.proofs.driven_tables.DrivenTables.begin.Goals as goal

pub invariant_of-self : goal.invariant_of-self
invariant_of-self c =
    let d : DeskView = the_view c.self.inside in
    let e : DeskView = desk_over d.opening d.tables c.begin.new.self in
    after_begun d e c.args.declared.symbols c.begin.result c.self.invariant (c.begin.ensures.begun d.opening d.tables) c.begin.ensures.ascending

pub returns : goal.returns
returns c =
    let d : DeskView = the_view c.self.inside in
    let e : DeskView = desk_over d.opening d.tables c.begin.new.self in
    let P : DeskView → Type 0 = λ x. BegunAs x e c.args.declared.symbols c.begin.result in
    subst P c.self.view_is (c.begin.ensures.begun d.opening d.tables)
