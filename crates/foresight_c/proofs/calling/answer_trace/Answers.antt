use Rattle.std.proofs.Common.{Some, ap, sym}
use Rattle.serve_faults.specs.Command.TheVariants.{Audit}
use Rattle.foresight_c.proofs.Endings.{answered_by}
use Rattle.foresight_c.proofs.calling.answer_trace.Goals as goal

pub returns : goal.returns
returns c =
    answered_by Audit _ _ _ _ _ _ _ _ _ (ap Some c.new-store.ensures.bytes) (ap Some (sym c.bytes.ensures)) c.audit_bytes-status.result c.audit_bytes-status.ensures c.hand_over.ensures
