use Rattle.trace_audit.proofs.Same.{same_reply}
use Rattle.trace_audit.proofs.ticket_replay.same_reply.Goals as goal

pub returns : goal.returns
returns c = same_reply _ _ _ c.has_same_values.ensures
