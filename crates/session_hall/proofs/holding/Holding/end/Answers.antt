use Rattle.std.proofs.Common.{Some, refl}
use Rattle.session_hall.specs.HoldingCalls.{EndedKept}
use Rattle.session_hall.specs.Names.{script_of}
use Rattle.session_hall.proofs.Kept.{by_books_serving}
use Rattle.session_hall.proofs.holding.Holding.end.Goals as goal

pub returns-clause-ended : goal.returns-clause-ended
returns-clause-ended g c =
    by_books_serving (λ t h k. EndedKept (g.S.Tickets.meaning (script_of c.args.hall.now)) h k c.args.reply t) c.args.self.now _ (Some c.in-Some.book) (Some c.end_in.new.book) c.in-Some.is refl
    c.args.self.now.caller.stage c.end_in.ensures.ended
