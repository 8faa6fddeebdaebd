use Rattle.admission_book.specs.Book.{IsFree}
use Rattle.admission_book.proofs.Blocks.{not_free}
use Rattle.session_hall.specs.Names.{hall_name, id_of, script_of}
use Rattle.session_hall.proofs.KeptAdmits.{launch_moves, launched_caller, launched_kept}
use Rattle.session_hall.proofs.Tickets.{of_serving}
use Rattle.session_hall.proofs.caller.Caller.launch_in.Goals as goal

pub unreachable-requires : goal.unreachable-requires
unreachable-requires g c =
    let free = of_serving c.args.self.now.stage c.serving-t.result (λ u. IsFree c.args.book.book u c.args.op) c.serving-t.ensures c.requires.free in
    not_free c.args.book.book c.serving-t.result c.args.op c.in-Delayed.older c.in-Delayed.symbol c.in-Delayed.ensures.admits.0 free

pub give_all-requires-clause-moves : goal.give_all-requires-clause-moves
give_all-requires-clause-moves g c =
    launch_moves g.S.Tickets.meaning (id_of (hall_name c.args.hall.now)) (script_of c.args.hall.now) c.args.self.now c.args.book c.requires.keeper c.serving-t.result c.serving-t.ensures c.args.op
    c.admit.new.self c.admit.ensures.stays.script c.admit.ensures.stays.lawful c.in-Admitted.ensures.admits

pub returns-clause-caller : goal.returns-clause-caller
returns-clause-caller g c =
    launched_caller g.S.Tickets.meaning c.args.hall.now c.args.self.now c.args.book c.requires.keeper c.serving-t.result c.serving-t.ensures c.args.op
    c.admit.new.self c.admit.ensures.stays.script c.admit.ensures.stays.lawful c.in-Admitted.ensures.admits
    c.give_all.new.seat c.give_all.new.hands c.give_all.ensures.seat c.give_all.ensures.booked c.give_all.ensures.hands.0 c.give_all.ensures.hands.1

pub returns-clause-launched : goal.returns-clause-launched
returns-clause-launched g c =
    launched_kept g.S.Tickets.meaning c.args.hall.now c.args.self.now c.args.book c.requires.keeper c.serving-t.result c.serving-t.ensures c.args.op
    c.admit.new.self c.admit.ensures.stays.script c.admit.ensures.stays.lawful c.in-Admitted.ensures.admits
    c.give_all.new.seat c.give_all.new.hands c.give_all.ensures.seat c.give_all.ensures.booked c.give_all.ensures.hands.0 c.give_all.ensures.hands.1
