use Rattle.std.proofs.Common.{Some, refl}
use Rattle.session_hall.specs.HoldingCalls.{BeginsKept}
use Rattle.session_hall.specs.Names.{script_of}
use Rattle.session_hall.proofs.Kept.{by_books}
use Rattle.session_hall.proofs.holding.Holding.begin.Goals as goal

pub returns-clause-began : goal.returns-clause-began
returns-clause-began g c =
    by_books (λ h k. BeginsKept (g.S.Tickets.meaning (script_of c.args.hall.now)) h k c.begin_in.result) c.args.self.now _ (Some c.in-Some.book) (Some c.begin_in.new.book) c.in-Some.is refl c.begin_in.ensures.began
