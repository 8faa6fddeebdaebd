use Rattle.session_hall.specs.Names.{hall_name, id_of, script_of}
use Rattle.session_hall.proofs.KeptBegin.{began_kept, begun_keeper, out_keeper}
use Rattle.session_hall.proofs.caller.Caller.begin_in.Goals as goal

pub returns-in-Some-clause-keeper : goal.returns-in-Some-clause-keeper
returns-in-Some-clause-keeper g c =
    begun_keeper g.S.Tickets.meaning (id_of (hall_name c.args.hall.now)) (script_of c.args.hall.now) c.args.self.now c.args.book.now c.requires.keeper c.requires.stage c.begin_next.new.self
    c.begin_next.ensures.stays.script c.begin_next.ensures.stays.lawful c.in-Some.t c.in-Some.ensures.begins

pub returns-in-Some-clause-began : goal.returns-in-Some-clause-began
returns-in-Some-clause-began g c =
    began_kept g.S.Tickets.meaning (id_of (hall_name c.args.hall.now)) (script_of c.args.hall.now) c.args.self.now c.args.book.now c.requires.keeper c.requires.stage c.begin_next.new.self
    c.begin_next.ensures.stays.script c.begin_next.ensures.stays.lawful c.in-Some.t c.in-Some.ensures.begins

pub returns-in-None-clause-keeper : goal.returns-in-None-clause-keeper
returns-in-None-clause-keeper g c =
    out_keeper g.S.Tickets.meaning (id_of (hall_name c.args.hall.now)) (script_of c.args.hall.now) c.args.self.now c.args.book.now c.requires.keeper c.requires.stage c.begin_next.new.self
    c.begin_next.ensures.stays.script c.begin_next.ensures.stays.lawful c.in-None.ensures.begins.0 c.in-None.ensures.begins.1
