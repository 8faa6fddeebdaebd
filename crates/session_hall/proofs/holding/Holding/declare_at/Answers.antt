use Rattle.std.proofs.Common.{Some, refl}
use Rattle.session_journal.specs.Script.{declared_with}
use Rattle.session_hall.specs.HoldingCalls.{DeclaredKept}
use Rattle.session_hall.specs.Names.{script_of}
use Rattle.session_hall.proofs.Kept.{by_books_serving}
use Rattle.session_hall.proofs.holding.Holding.declare_at.Goals as goal

pub returns-clause-declared : goal.returns-clause-declared
returns-clause-declared g c =
    let m = g.S.Tickets.meaning (script_of c.args.hall.now) in
    by_books_serving (λ t h k. DeclaredKept m h k (declared_with m c.args.site c.args.values.now) t) c.args.self.now _ (Some c.in-Some.book) (Some c.declare_at_in.new.book) c.in-Some.is refl
    c.args.self.now.caller.stage c.declare_at_in.ensures.declared
