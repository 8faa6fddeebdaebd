use Rattle.std.proofs.Common.{Some, ap, sym}
use Rattle.serve_single.specs.Serving.{serving}
use Rattle.foresight_c.proofs.Endings.{answered_by}
use Rattle.foresight_c.proofs.calling.answer_session.Goals as goal

pub returns : goal.returns
returns c = λ callers shards.
    answered_by (serving c.args.tables callers shards) _ _ _ _ _ _ _ _ _ (ap Some c.new-store.ensures.bytes) (ap Some (sym c.bytes.ensures)) c.serve_bytes-status.result (c.serve_bytes-status.ensures callers shards) c.hand_over.ensures
