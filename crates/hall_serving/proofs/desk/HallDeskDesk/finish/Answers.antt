use Rattle.std.proofs.Common.{rules}
use Rattle.session_hall.specs.Names.{script_of}
use Rattle.hall_serving.proofs.Finishing.{may_finish}
use Rattle.hall_serving.proofs.Mine.{finish_still}
use Rattle.hall_serving.proofs.desk.HallDeskDesk.finish.Goals as goal

pub finish_with-requires-clause-may : goal.finish_with-requires-clause-may
finish_with-requires-clause-may g c =
    may_finish g.S.Tickets.meaning c.self.inside.hall.now c.self.inside.caller.now c.self.inside.ticket c.self.inside.caller.ghost_name c.self.inside.reply c.self.invariant c.args.self.now c.self.view_is c.args.next.now.symbols c.requires

pub returns-clause-finished : goal.returns-clause-finished
returns-clause-finished g c =
    let b = finish_still g.S.Tickets.meaning c.self.inside.hall.now c.self.inside.caller.now c.finish_with.new.self c.self.invariant.caller c.finish_with.ensures.caller (g.S.Tickets.meaning (script_of c.self.inside.hall.now)) c.args.next.now.symbols c.finish_with.ensures.finished in
    search rules
