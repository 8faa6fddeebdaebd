use Rattle.std.proofs.Common.{List, ap, ◌∙◌}
use Rattle.session_values.specs.declared.op.Op.{Op}
use Rattle.session_journal.specs.Lists.{adding}
use Rattle.session_journal.proofs.ListKeeps.{room_is}
use Rattle.session_journal.proofs.list_script.ListScriptScript.room.Goals as goal

pub returns : goal.returns
returns c = c.count_adding.ensures ∙ ap (λ (l : List Op). adding c.args.table l) c.as_slice.ensures.value ∙ room_is c.self.inside.shape.items c.self.inside.rows.items c.self.inside.ops.items c.self.inside.symbols.items _ _ _ c.self.invariant c.args.self.now c.self.view_is c.args.table
