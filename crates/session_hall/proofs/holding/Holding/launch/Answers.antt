use Rattle.std.proofs.Common.{None, Some, ◌∙◌, sym}
use Rattle.session_hall.specs.HoldingCalls.{LaunchedKept}
use Rattle.session_hall.specs.Names.{script_of}
use Rattle.session_hall.proofs.Kept.{by_books_serving_as}
use Rattle.session_hall.proofs.holding.Holding.launch.Goals as goal

pub returns-clause-launched : goal.returns-clause-launched
returns-clause-launched g c =
    by_books_serving_as (λ t h k. LaunchedKept (g.S.Tickets.meaning (script_of c.args.hall.now)) h k c.args.op t) c.args.self.now c.count_ends.new.self (Some c.in-Some.book) None (sym c.replace.ensures.value ∙ c.in-Some.is) (c.count_ends.ensures.book ∙ c.replace.ensures.after)
    c.launch_in.new.self c.count_ends.ensures.caller c.args.self.now.caller.stage c.launch_in.ensures.launched
