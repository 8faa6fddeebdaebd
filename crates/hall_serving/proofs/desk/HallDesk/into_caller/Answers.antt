use Rattle.hall_serving.proofs.Finishing.{leaves_desk}
use Rattle.hall_serving.proofs.desk.HallDesk.into_caller.Goals as goal

pub returns : goal.returns
returns g c =
    leaves_desk g.S.Tickets.meaning c.self.inside.hall.now c.self.inside.caller.now c.self.inside.ticket c.self.inside.caller.ghost_name c.self.inside.reply c.self.invariant c.args.self c.self.view_is
