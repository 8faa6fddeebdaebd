use Rattle.trace_audit.proofs.Judged.{event_verdict}
use Rattle.trace_audit.proofs.judge.judge_event.Goals as goal

pub returns : goal.returns
returns c = λ m a. event_verdict m c.args.events.now c.args.at c.index-events-at.result _ a c.index-events-at.is c.rule_of.ensures
