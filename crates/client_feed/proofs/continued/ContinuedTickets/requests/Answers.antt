use Rattle.std.proofs.Common.{subst}
use Rattle.session_hall.specs.Script.{IsScript}
use Rattle.handler_machine.specs.Scripts.{ScriptsView, meaning}
use Rattle.client_feed.proofs.OverLists.{over_lists}
use Rattle.client_feed.proofs.continued.ContinuedTickets.requests.Goals as goal

pub returns-clause-lawful : goal.returns-clause-lawful
returns-clause-lawful c = subst (λ (s : ScriptsView). IsScript (meaning s)) c.self.view_is (over_lists c.self.inside.scripts _ c.requests.ensures.lawful c.self.invariant)
