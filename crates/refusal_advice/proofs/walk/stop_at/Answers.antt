use Rattle.refusal_advice.proofs.Stopping.{told_ok}
use Rattle.refusal_advice.proofs.walk.stop_at.Goals as goal

pub returns : goal.returns
returns c = told_ok c.args.source.now c.args.at c.stop_in.result c.stop_in.ensures

pub stop_in-requires : goal.stop_in-requires
stop_in-requires c = c.requires
