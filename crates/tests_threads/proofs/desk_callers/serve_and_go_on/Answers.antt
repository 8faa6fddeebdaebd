use Rattle.std.proofs.Common.{refl, sym, ap, ◌∙◌}
use Rattle.session_journal.specs.Desks.{DeskView}
use Rattle.hall_serving.specs.Desks.{HallView}
use Rattle.hall_serving.proofs.Homes.{stays_home}
use Rattle.tests_threads.proofs.AtHome.{at_home}
use Rattle.tests_threads.proofs.desk_callers.serve_and_go_on.Goals as goal

pub begin-requires-clause-caller : goal.begin-requires-clause-caller
begin-requires-clause-caller g c =
    let e = c.into_caller-back.ensures in
    let m = g.S.Tickets.meaning c.args.plan.now in
    let stays = at_home m c.over-desk.result.desk c.serve.new.desk.desk c.serve.result c.serve.ensures.served c.serve.ensures.stopped in
    let home = ap (λ (d : DeskView). d.home) e.desk_is ∙ stays ∙ ap (λ (d : DeskView). d.home) c.over-desk.ensures.desk in
    let script = e.script_is ∙ c.serve.ensures.script ∙ c.over-desk.ensures.script in
    (stays_home g.S.Tickets.meaning e.hall c.args.hall.now c.into_caller-back.result.now c.into_caller-back.result.now c.args.caller.now c.into_caller-back.result.ghost_name _ script home refl e.stands.caller).0
