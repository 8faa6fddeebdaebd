use Rattle.std.proofs.Common.{Some, refl}
use Rattle.session_hall.specs.HoldingCalls.{AdmitsKept}
use Rattle.session_hall.specs.Names.{script_of}
use Rattle.session_hall.proofs.Kept.{by_books_serving}
use Rattle.session_hall.proofs.holding.Holding.admit.Goals as goal

pub returns-clause-admits : goal.returns-clause-admits
returns-clause-admits g c =
    by_books_serving (λ t h k. AdmitsKept (g.S.Tickets.meaning (script_of c.args.hall.now)) h k c.args.op c.admit_in.result t) c.args.self.now _ (Some c.in-Some.book) (Some c.admit_in.new.book) c.in-Some.is refl
    c.args.self.now.caller.stage c.admit_in.ensures.admits
