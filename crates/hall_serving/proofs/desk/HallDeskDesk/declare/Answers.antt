use Rattle.std.proofs.Common.{rules}
use Rattle.session_hall.specs.Names.{script_of}
use Rattle.hall_serving.proofs.Mine.{declare_still}
use Rattle.hall_serving.proofs.desk.HallDeskDesk.declare.Goals as goal

pub returns-clause-narrowed : goal.returns-clause-narrowed
returns-clause-narrowed g c =
    let b = declare_still g.S.Tickets.meaning c.self.inside.hall.now c.self.inside.caller.now c.declare_with.new.self c.self.invariant.caller c.declare_with.ensures.caller (g.S.Tickets.meaning (script_of c.self.inside.hall.now)) c.args.f.now.symbols c.declare_with.ensures.declared in
    search rules
