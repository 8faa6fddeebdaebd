use Rattle.session_hall.proofs.States.{in_slot}
use Rattle.session_hall.proofs.laws.whenever_free.Goals as goal

pub returns : goal.returns
returns g c = λ s k free. in_slot g.S.Tickets.meaning c.args.hall.now c.args.caller.now c.requires s k free
