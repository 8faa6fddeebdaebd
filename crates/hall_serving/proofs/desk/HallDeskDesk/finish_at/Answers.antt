use Rattle.std.proofs.Common.{rules}
use Rattle.session_journal.specs.Script.{declared_with}
use Rattle.session_hall.specs.Names.{script_of}
use Rattle.hall_serving.proofs.Finishing.{has_site, may_finish_at}
use Rattle.hall_serving.proofs.Mine.{finish_still}
use Rattle.hall_serving.proofs.desk.HallDeskDesk.finish_at.Goals as goal

pub finish_at-requires-clause-site : goal.finish_at-requires-clause-site
finish_at-requires-clause-site g c =
    has_site g.S.Tickets.meaning c.self.inside.hall.now c.self.inside.caller.now c.self.inside.ticket c.self.inside.caller.ghost_name c.self.inside.reply c.args.self.now c.self.view_is c.args.site _ c.requires.site

pub finish_at-requires-clause-may : goal.finish_at-requires-clause-may
finish_at-requires-clause-may g c =
    may_finish_at g.S.Tickets.meaning c.self.inside.hall.now c.self.inside.caller.now c.self.inside.ticket c.self.inside.caller.ghost_name c.self.inside.reply c.self.invariant c.args.self.now c.self.view_is c.args.site c.args.values.now c.requires.may

pub returns-clause-finished : goal.returns-clause-finished
returns-clause-finished g c =
    let b = finish_still g.S.Tickets.meaning c.self.inside.hall.now c.self.inside.caller.now c.finish_at.new.self c.self.invariant.caller c.finish_at.ensures.caller (g.S.Tickets.meaning (script_of c.self.inside.hall.now)) (declared_with (g.S.Tickets.meaning (script_of c.self.inside.hall.now)) c.args.site c.args.values.now) c.finish_at.ensures.finished in
    search rules
