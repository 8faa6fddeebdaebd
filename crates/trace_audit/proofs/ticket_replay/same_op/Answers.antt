use Rattle.trace_audit.proofs.Same.{same_op}
use Rattle.trace_audit.proofs.ticket_replay.same_op.Goals as goal

pub returns : goal.returns
returns c = same_op _ _ _ c.has_same_parts.ensures
