use Rattle.std.proofs.Common.{◌∙◌}
use Rattle.session_journal.proofs.ListKeeps.{calls_are}
use Rattle.session_journal.proofs.list_script.ListScriptScript.calls.Goals as goal

pub returns : goal.returns
returns c = c.len.ensures ∙ c.self.inside.ops.ok.0 ∙ calls_are c.self.inside.shape.items c.self.inside.rows.items c.self.inside.ops.items c.self.inside.symbols.items _ _ _ c.self.invariant c.args.self.now c.self.view_is
