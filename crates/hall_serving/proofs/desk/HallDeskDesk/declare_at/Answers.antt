use Rattle.std.proofs.Common.{rules}
use Rattle.session_journal.specs.Script.{declared_with}
use Rattle.session_hall.specs.Names.{script_of}
use Rattle.hall_serving.proofs.Mine.{declare_still}
use Rattle.hall_serving.proofs.desk.HallDeskDesk.declare_at.Goals as goal

pub returns-clause-narrowed : goal.returns-clause-narrowed
returns-clause-narrowed g c =
    let b = declare_still g.S.Tickets.meaning c.self.inside.hall.now c.self.inside.caller.now c.declare_at.new.self c.self.invariant.caller c.declare_at.ensures.caller (g.S.Tickets.meaning (script_of c.self.inside.hall.now)) (declared_with (g.S.Tickets.meaning (script_of c.self.inside.hall.now)) c.args.site c.args.values.now) c.declare_at.ensures.declared in
    search rules
