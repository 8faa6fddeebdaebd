use Rattle.std.proofs.Common.{ap, ◌∙◌, subst, sym}
use Rattle.symbolic_ops.specs.Foresight.{ForesightView}
use Rattle.session_journal.specs.Lists.{ListView, list_meaning, ticket_at}
use Rattle.repeated_calls.specs.declared.script.RepeatedScript.{RepeatedScript}
use Rattle.repeated_calls.specs.Repeated.{IsPlan}
use Rattle.repeated_calls.proofs.Calling.{plan_again}
use Rattle.repeated_calls.proofs.script.RepeatedScriptServes.serve.Goals as goal

pub call_all-requires-clause-plan : goal.call_all-requires-clause-plan
call_all-requires-clause-plan g c κs within =
    let P : RepeatedScript → Type 0 = λ s. IsPlan (list_meaning s.list.now.list.shape s.list.now.list.tickets) (g.D.Desk.at c.args.desk.now).ticket c.op_of-op.result c.times-times.result c.entry.new.out.symbols in
    let entry = ap (λ (f : ForesightView). f.symbols) c.entry.ensures ∙ ap (λ (l : ListView). (ticket_at l.tickets c.args.ticket).entry) c.script.ensures in
    subst P (sym c.requires.plan) (plan_again c.args.self.now.list.now.list c.args.ticket (g.D.Desk.at c.args.desk.now).ticket c.op_of-op.result c.args.self.now.list.now.times c.times-times.result c.entry.new.out.symbols
    c.op_of-op.ensures.op c.times-times.ensures.times c.requires.ticket entry c.op_of-op.ensures.held c.times-times.ensures.few)
