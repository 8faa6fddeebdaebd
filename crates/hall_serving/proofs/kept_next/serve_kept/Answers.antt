use Rattle.std.proofs.Common.{rules, ap, ◌∙◌}
use Rattle.session_journal.specs.Desks.{DeskView}
use Rattle.hall_serving.specs.Desks.{HallView}
use Rattle.hall_serving.proofs.KeptHomes.{begun_kept, stays_kept}
use Rattle.hall_serving.proofs.kept_next.serve_kept.Goals as goal

pub returns-clause-holding : goal.returns-clause-holding
returns-clause-holding g c =
    let script = ap (λ (v : HallView g.row.S.Denot). v.script) c.desk.view_is ∙ c.in-Ok.ensures.script ∙ ap (λ (v : HallView g.row.S.Denot). v.script) c.come_to.ensures.still ∙ c.over-desk.ensures.script in
    let home = ap (λ (v : HallView g.row.S.Denot). v.desk.home) c.desk.view_is ∙ c.in-Ok.ensures.served.home_is ∙ ap (λ (v : HallView g.row.S.Denot). v.desk.home) c.come_to.ensures.still ∙ ap (λ (d : DeskView). d.home) c.over-desk.ensures.desk in
    let stays = stays_kept g.S.Tickets.meaning c.desk.inside.hall.now c.args.crew.hall.now c.desk.inside.holding.now c.args.holding.now c.desk.inside.holding.ghost_name _ script home c.desk.invariant.holding in
    search (rules, stays)

pub returns-clause-begun : goal.returns-clause-begun
returns-clause-begun g c =
    let home = ap (λ (v : HallView g.row.S.Denot). v.desk.home) c.desk.view_is ∙ c.in-Ok.ensures.served.home_is ∙ ap (λ (v : HallView g.row.S.Denot). v.desk.home) c.come_to.ensures.still ∙ ap (λ (d : DeskView). d.home) c.over-desk.ensures.desk in
    let still = begun_kept c.desk.inside.hall.now c.args.crew.hall.now c.desk.inside.holding.now c.args.holding.now c.desk.inside.holding.ghost_name _ home in
    search (rules, still)
