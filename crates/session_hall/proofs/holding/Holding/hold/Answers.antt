use Rattle.std.proofs.Common.{None, Some, refl}
use Rattle.session_hall.specs.HoldingCalls.{TookBookAs}
use Rattle.session_hall.specs.Names.{script_of}
use Rattle.session_hall.proofs.Kept.{by_books}
use Rattle.session_hall.proofs.holding.Holding.hold.Goals as goal

pub returns-in-Some-clause-took : goal.returns-in-Some-clause-took
returns-in-Some-clause-took g c = (
  c.in-Some.book.book,
  by_books (λ h k. TookBookAs (g.S.Tickets.meaning (script_of c.args.hall.now)) h k c.in-Some.book.book) c.args.self.now _ None (Some c.in-Some.book) c.requires.none refl c.in-Some.ensures.asked.1,
)
