use Rattle.std.proofs.Common.{None, Some, ◌∙◌, sym}
use Rattle.session_hall.specs.HoldingCalls.{GaveKept}
use Rattle.session_hall.specs.Names.{script_of}
use Rattle.session_hall.proofs.Kept.{by_books_as}
use Rattle.session_hall.proofs.holding.Holding.release.Goals as goal

pub returns-clause-gave : goal.returns-clause-gave
returns-clause-gave g c =
    by_books_as (λ h k. GaveKept (g.S.Tickets.meaning (script_of c.args.hall.now)) h k) c.args.self.now c.count_ends.new.self (Some c.in-Some.book) None (sym c.replace.ensures.value ∙ c.in-Some.is) (c.count_ends.ensures.book ∙ c.replace.ensures.after)
    c.give_book.new.self c.count_ends.ensures.caller c.give_book.ensures.gave
