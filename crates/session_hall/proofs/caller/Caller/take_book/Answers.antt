use Rattle.session_hall.proofs.KeptTaking.{asks_book}
use Rattle.session_hall.proofs.caller.Caller.take_book.Goals as goal

pub returns-clause-asked : goal.returns-clause-asked
returns-clause-asked g c =
    asks_book g.S.Tickets.meaning c.args.hall.now c.args.self.now c.requires.caller c.requires.stage c.take_book.new.seat c.take_book.ensures.seat.0 c.take_book.ensures.seat.1
    c.take_book.result c.take_book.ensures.took
