use Rattle.session_hall.specs.Names.{hall_name, id_of, script_of}
use Rattle.session_hall.proofs.KeptAdmits.{blocked_keeper, blocked_kept}
use Rattle.session_hall.proofs.caller.Caller.admit_in.Goals as goal

pub returns-in-Delayed-clause-keeper : goal.returns-in-Delayed-clause-keeper
returns-in-Delayed-clause-keeper g c =
    blocked_keeper g.S.Tickets.meaning (id_of (hall_name c.args.hall.now)) (script_of c.args.hall.now) c.args.self.now c.args.book.now c.requires.keeper c.serving-t.result c.serving-t.ensures c.args.op
    c.admit.new.self c.admit.ensures.stays.script c.admit.ensures.stays.lawful c.in-Delayed.older c.in-Delayed.symbol c.in-Delayed.ensures.judges c.admit.result c.admit.ensures.admits

pub returns-in-Delayed-clause-admits : goal.returns-in-Delayed-clause-admits
returns-in-Delayed-clause-admits g c =
    blocked_kept g.S.Tickets.meaning (id_of (hall_name c.args.hall.now)) (script_of c.args.hall.now) c.args.self.now c.args.book.now c.requires.keeper c.serving-t.result c.serving-t.ensures c.args.op
    c.admit.new.self c.admit.ensures.stays.script c.admit.ensures.stays.lawful c.in-Delayed.older c.in-Delayed.symbol c.in-Delayed.ensures.judges c.admit.result c.admit.ensures.admits
