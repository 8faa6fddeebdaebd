use Rattle.session_hall.specs.Names.{hall_name, id_of, script_of}
use Rattle.session_hall.proofs.KeptTickets.{ended_keeper, ended_kept}
use Rattle.session_hall.proofs.caller.Caller.end_in.Goals as goal

pub returns-clause-keeper : goal.returns-clause-keeper
returns-clause-keeper g c =
    ended_keeper g.S.Tickets.meaning (id_of (hall_name c.args.hall.now)) (script_of c.args.hall.now) c.args.self.now c.args.book.now c.requires.keeper c.serving.result c.serving.ensures
    c.end.new.self c.end.ensures.stays.script c.end.ensures.stays.lawful c.args.reply c.end.ensures.ended

pub returns-clause-ended : goal.returns-clause-ended
returns-clause-ended g c =
    ended_kept g.S.Tickets.meaning (id_of (hall_name c.args.hall.now)) (script_of c.args.hall.now) c.args.self.now c.args.book.now c.requires.keeper c.serving.result c.serving.ensures
    c.end.new.self c.end.ensures.stays.script c.end.ensures.stays.lawful c.args.reply c.end.ensures.ended
