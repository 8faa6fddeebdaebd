use Rattle.session_journal.proofs.ListKeeps.{view_script}
use Rattle.session_journal.proofs.list_script.ListScriptScript.requests.Goals as goal

pub returns-clause-lawful : goal.returns-clause-lawful
returns-clause-lawful c = view_script c.self.inside.shape.items c.self.inside.rows.items c.self.inside.ops.items c.self.inside.symbols.items _ _ _ c.self.invariant c.args.self.now c.self.view_is
