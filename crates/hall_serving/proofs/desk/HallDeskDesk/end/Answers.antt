use Rattle.std.proofs.Common.{rules}
use Rattle.session_hall.specs.Names.{script_of}
use Rattle.hall_serving.proofs.Mine.{end_still}
use Rattle.hall_serving.proofs.desk.HallDeskDesk.end.Goals as goal

pub returns-clause-ended : goal.returns-clause-ended
returns-clause-ended g c =
    let b = end_still g.S.Tickets.meaning c.self.inside.hall.now c.self.inside.caller.now c.end_with.new.self c.self.invariant.caller c.end_with.ensures.caller (g.S.Tickets.meaning (script_of c.self.inside.hall.now)) c.args.reply c.end_with.ensures.ended in
    search rules
