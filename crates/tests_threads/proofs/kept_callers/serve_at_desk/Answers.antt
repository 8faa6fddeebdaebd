use Rattle.std.proofs.Common.{rules, ap, ◌∙◌}
use Rattle.session_journal.specs.Desks.{DeskView}
use Rattle.hall_serving.proofs.KeptHomes.{stays_kept}
use Rattle.tests_threads.proofs.AtHome.{at_home}
use Rattle.tests_threads.proofs.kept_callers.serve_at_desk.Goals as goal

pub returns-clause-holding : goal.returns-clause-holding
returns-clause-holding g c =
    let e = c.into_holding-back.ensures in
    let m = g.S.Tickets.meaning c.args.plan.now in
    let stays = at_home m c.over-desk.result.desk c.serve.new.desk.desk c.serve.result c.serve.ensures.served c.serve.ensures.stopped in
    let home = ap (λ (d : DeskView). d.home) e.desk_is ∙ stays ∙ ap (λ (d : DeskView). d.home) c.over-desk.ensures.desk in
    let script = e.script_is ∙ c.serve.ensures.script ∙ c.over-desk.ensures.script in
    let kept = stays_kept g.S.Tickets.meaning e.hall c.args.hall.now c.into_holding-back.result.now c.begin.new.self c.into_holding-back.result.ghost_name _ script home e.stands.holding in
    let number = kept.1 ∙ c.begin.ensures.holding.1 ∙ c.hold_with.ensures.holding.1 in
    search (rules, kept, number)
