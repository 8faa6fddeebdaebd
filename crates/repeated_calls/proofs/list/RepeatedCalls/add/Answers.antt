use Rattle.std.proofs.Common.{ap, ◌∙◌, rules}
use Rattle.session_journal.specs.Lists.{ListView, answers_only, last_ticket}
use Rattle.repeated_calls.specs.Repeated.{no_value}
use Rattle.repeated_calls.proofs.Lasts.{kept_more, last_pushed, listed, ticketed_by, view_more}
use Rattle.repeated_calls.proofs.list.RepeatedCalls.add.Goals as goal

pub call_times-requires-clause-last : goal.call_times-requires-clause-last
call_times-requires-clause-last c =
    ap (λ (v : ListView). last_ticket v.tickets) (ticketed_by c.self.inside.list c.ticket.new.self c.nil.result c.nil.ensures c.ticket.ensures) ∙ last_pushed c.self.inside.list.tickets (answers_only no_value)

pub invariant_of-self : goal.invariant_of-self
invariant_of-self c =
    let l = listed c.self.inside.list c.ticket.new.self c.call_times.new.list c.self.inside.times c.args.op (ticketed_by c.self.inside.list c.ticket.new.self c.nil.result c.nil.ensures c.ticket.ensures) c.call_times.ensures in
    kept_more c.self.inside.list c.call_times.new.list c.self.inside.ops.items c.push_reserved.new.self.items c.self.inside.times _ _ c.args.op c.self.invariant (search rules) l c.push_reserved.ensures.items c.push_reserved.ensures.capacity

pub returns : goal.returns
returns c =
    let l = listed c.self.inside.list c.ticket.new.self c.call_times.new.list c.self.inside.times c.args.op (ticketed_by c.self.inside.list c.ticket.new.self c.nil.result c.nil.ensures c.ticket.ensures) c.call_times.ensures in
    view_more _ c.args.self.now c.call_times.new.list c.push_reserved.new.self.items c.args.op c.self.view_is l c.push_reserved.ensures.items
