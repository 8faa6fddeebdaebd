use Rattle.std.proofs.Common.{subst}
use Rattle.session_journal.specs.Script.{IsScript}
use Rattle.handler_machine.specs.Scripts.{ScriptsView, meaning}
use Rattle.handler_machine.proofs.Lawful.{is_script}
use Rattle.handler_machine.proofs.scripts.ScriptsScript.requests.Goals as goal

pub returns-clause-lawful : goal.returns-clause-lawful
returns-clause-lawful c = subst (λ (s : ScriptsView). IsScript (meaning s)) c.self.view_is (is_script (record { program = c.self.inside.program.now; opening = c.self.inside.opening.now; requests = c.self.inside.requests.now }) c.self.invariant.0)
