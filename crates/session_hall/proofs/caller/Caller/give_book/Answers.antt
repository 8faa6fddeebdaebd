use Rattle.session_hall.proofs.KeptTaking.{released_caller}
use Rattle.session_hall.proofs.caller.Caller.give_book.Goals as goal

pub returns-clause-caller : goal.returns-clause-caller
returns-clause-caller g c =
    released_caller g.S.Tickets.meaning c.args.hall.now c.args.self.now c.args.book c.requires.keeper c.requires.stage c.give_all.new.seat c.give_all.new.hands
    c.give_all.ensures.seat c.give_all.ensures.booked c.give_all.ensures.hands.0 c.give_all.ensures.hands.1
