use Rattle.std.proofs.Common.{◌∙◌}
use Rattle.session_journal.proofs.ListKeeps.{ticket_keeps}
use Rattle.session_journal.proofs.list_script.ListScript.ticket.Goals as goal

pub invariant_of-self : goal.invariant_of-self
invariant_of-self c =
    ticket_keeps c.self.inside.shape.items c.self.inside.rows.items c.self.inside.ops.items c.self.inside.symbols.items _ _ _ c.self.invariant c.args.self.now c.self.view_is c.args.reply _ _ c.push_reserved.new.self.items _ (c.len.ensures ∙ c.self.inside.ops.ok.0) (c.len-2.ensures ∙ c.self.inside.symbols.ok.0) c.requires c.bounds.ensures c.push_reserved.ensures.items c.push_reserved.ensures.capacity
