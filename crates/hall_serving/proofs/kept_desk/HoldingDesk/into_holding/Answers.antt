use Rattle.hall_serving.proofs.KeptFinishing.{leaves_kept}
use Rattle.hall_serving.proofs.kept_desk.HoldingDesk.into_holding.Goals as goal

pub returns : goal.returns
returns g c =
    leaves_kept g.S.Tickets.meaning c.self.inside.hall.now c.self.inside.holding.now c.self.inside.ticket c.self.inside.holding.ghost_name c.self.inside.reply c.self.invariant c.args.self c.self.view_is
