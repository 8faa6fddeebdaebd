use Rattle.session_hall.specs.Names.{hall_name, id_of, script_of}
use Rattle.session_hall.proofs.KeptTickets.{declared_keeper, declared_kept}
use Rattle.session_hall.proofs.caller.Caller.declare_in.Goals as goal

pub returns-clause-keeper : goal.returns-clause-keeper
returns-clause-keeper g c =
    declared_keeper g.S.Tickets.meaning (id_of (hall_name c.args.hall.now)) (script_of c.args.hall.now) c.args.self.now c.args.book.now c.requires.keeper c.serving.result c.serving.ensures
    c.narrow.new.self c.narrow.ensures.stays.script c.narrow.ensures.stays.lawful c.args.f.now.symbols c.narrow.ensures.narrowed

pub returns-clause-declared : goal.returns-clause-declared
returns-clause-declared g c =
    declared_kept g.S.Tickets.meaning (id_of (hall_name c.args.hall.now)) (script_of c.args.hall.now) c.args.self.now c.args.book.now c.requires.keeper c.serving.result c.serving.ensures
    c.narrow.new.self c.narrow.ensures.stays.script c.narrow.ensures.stays.lawful c.args.f.now.symbols c.narrow.ensures.narrowed
