use Rattle.session_journal.specs.Script.{declared_with}
use Rattle.session_hall.specs.Names.{hall_name, id_of, script_of}
use Rattle.session_hall.proofs.KeptTickets.{declared_keeper, declared_kept}
use Rattle.session_hall.proofs.Sites.{narrowed_there}
use Rattle.session_hall.proofs.caller.Caller.declare_at_in.Goals as goal

pub returns-clause-keeper : goal.returns-clause-keeper
returns-clause-keeper g c =
    let there = narrowed_there g.S.Tickets.meaning (script_of c.args.hall.now) c.args.book.now c.requires.keeper.script_is c.args.site c.args.values.now c.serving.result c.narrow_at.new.self.book c.narrow_at.ensures.narrowed in
    declared_keeper g.S.Tickets.meaning (id_of (hall_name c.args.hall.now)) (script_of c.args.hall.now) c.args.self.now c.args.book.now c.requires.keeper c.serving.result c.serving.ensures
    c.narrow_at.new.self c.narrow_at.ensures.stays.script c.narrow_at.ensures.stays.lawful (declared_with (g.S.Tickets.meaning (script_of c.args.hall.now)) c.args.site c.args.values.now) there

pub returns-clause-declared : goal.returns-clause-declared
returns-clause-declared g c =
    let there = narrowed_there g.S.Tickets.meaning (script_of c.args.hall.now) c.args.book.now c.requires.keeper.script_is c.args.site c.args.values.now c.serving.result c.narrow_at.new.self.book c.narrow_at.ensures.narrowed in
    declared_kept g.S.Tickets.meaning (id_of (hall_name c.args.hall.now)) (script_of c.args.hall.now) c.args.self.now c.args.book.now c.requires.keeper c.serving.result c.serving.ensures
    c.narrow_at.new.self c.narrow_at.ensures.stays.script c.narrow_at.ensures.stays.lawful (declared_with (g.S.Tickets.meaning (script_of c.args.hall.now)) c.args.site c.args.values.now) there
