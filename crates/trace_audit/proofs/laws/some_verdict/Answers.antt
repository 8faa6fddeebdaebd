use Rattle.trace_audit.proofs.Deciding.{some_verdict}
use Rattle.trace_audit.proofs.laws.some_verdict.Goals as goal

pub returns : goal.returns
returns c = some_verdict
