use Rattle.std.proofs.Common.{rules, ap, ◌∙◌}
use Rattle.session_journal.specs.Desks.{DeskView}
use Rattle.hall_serving.specs.Desks.{HallView}
use Rattle.hall_serving.proofs.Homes.{begun_home, stays_home}
use Rattle.hall_serving.proofs.next.serve_ticket.Goals as goal

pub returns-clause-caller : goal.returns-clause-caller
returns-clause-caller g c =
    let script = ap (λ (v : HallView g.row.S.Denot). v.script) c.desk.view_is ∙ c.in-Ok.ensures.script ∙ c.over-desk.ensures.script in
    let home = ap (λ (v : HallView g.row.S.Denot). v.desk.home) c.desk.view_is ∙ c.in-Ok.ensures.served.home_is ∙ ap (λ (d : DeskView). d.home) c.over-desk.ensures.desk in
    stays_home g.S.Tickets.meaning c.desk.inside.hall.now c.args.crew.hall.now c.desk.inside.caller.now _ c.args.caller.now c.desk.inside.caller.ghost_name _ script home (search rules) c.desk.invariant.caller

pub returns-clause-begun : goal.returns-clause-begun
returns-clause-begun g c =
    let home = ap (λ (v : HallView g.row.S.Denot). v.desk.home) c.desk.view_is ∙ c.in-Ok.ensures.served.home_is ∙ ap (λ (d : DeskView). d.home) c.over-desk.ensures.desk in
    begun_home c.desk.inside.hall.now c.args.crew.hall.now c.desk.inside.caller.now _ c.args.caller.now c.desk.inside.caller.ghost_name _ home (search rules)
