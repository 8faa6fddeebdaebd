use Rattle.std.proofs.Common.{Some, refl}
use Rattle.session_hall.specs.HoldingCalls.{DeclaredKept}
use Rattle.session_hall.specs.Names.{script_of}
use Rattle.session_hall.proofs.Kept.{by_books_serving}
use Rattle.session_hall.proofs.holding.Holding.declare.Goals as goal

pub returns-clause-declared : goal.returns-clause-declared
returns-clause-declared g c =
    by_books_serving (λ t h k. DeclaredKept (g.S.Tickets.meaning (script_of c.args.hall.now)) h k c.args.f.now.symbols t) c.args.self.now _ (Some c.in-Some.book) (Some c.declare_in.new.book) c.in-Some.is refl
    c.args.self.now.caller.stage c.declare_in.ensures.declared
