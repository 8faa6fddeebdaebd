use Rattle.session_hall.proofs.States.{has_reply}
use Rattle.session_hall.proofs.laws.until_entered.Goals as goal

pub returns : goal.returns
returns g c = λ s k t op v at. has_reply g.S.Tickets.meaning c.args.hall.now c.args.caller.now c.requires s k t op v at
