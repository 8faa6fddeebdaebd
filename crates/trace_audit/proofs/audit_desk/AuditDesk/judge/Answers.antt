use Rattle.trace_audit.proofs.Judged.{slices_judge, slices_map}
use Rattle.trace_audit.proofs.audit_desk.AuditDesk.judge.Goals as goal

pub judge_trace-requires-clause-run : goal.judge_trace-requires-clause-run
judge_trace-requires-clause-run g c = slices_judge g.S.Script.meaning c.self.inside.script.now c.self.inside.trace.now.events c.self.inside.turn c.self.inside.tickets.items c.args.self c.in_ok-again.again c.events.result.now c.as_slice-tickets.result.now c.self.view_is c.self.invariant c.in_ok-again.ensures c.requires.answered c.events.ensures.events c.as_slice-tickets.ensures.value c.events.ensures.known c.events.ensures.few

pub returns : goal.returns
returns g c = slices_map g.S.Script.meaning c.self.inside.script.now c.self.inside.trace.now.events c.self.inside.turn c.self.inside.tickets.items c.args.self c.in_ok-again.again c.judge_trace.result c.events.result.now c.as_slice-tickets.result.now c.self.view_is c.self.invariant c.in_ok-again.ensures c.requires.answered c.events.ensures.events c.as_slice-tickets.ensures.value c.events.ensures.known c.events.ensures.few c.judge_trace.ensures
