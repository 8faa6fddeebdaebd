use Rattle.std.proofs.Common.{rules, ◌∙◌}
use Rattle.session_hall.specs.Names.{script_of}
use Rattle.turn_board.specs.Boards.{turn_count}
use Rattle.hall_serving.proofs.Mine.{admit_still, apply_still}
use Rattle.hall_serving.proofs.desk.HallDeskDesk.call.Goals as goal

pub returns-clause-waits : goal.returns-clause-waits
returns-clause-waits g c =
    let a = admit_still g.S.Tickets.meaning c.self.inside.hall.now c.self.inside.caller.now c.admit_with.new.self c.self.invariant.caller c.admit_with.ensures.caller (g.S.Tickets.meaning (script_of c.self.inside.hall.now)) c.args.op c.admit_with.ensures.admitted in
    let b = apply_still g.S.Tickets.meaning c.self.inside.hall.now c.admit_with.new.self c.apply_with-reply.new.self c.admit_with.ensures.caller.0 c.apply_with-reply.ensures.caller (g.S.Tickets.meaning (script_of c.self.inside.hall.now)) c.self.inside.hall.now.sizes.shards (turn_count c.self.inside.hall.now.board) c.apply_with-reply.result c.apply_with-reply.ensures.applied in
    let e = b ∙ a in
    search rules
