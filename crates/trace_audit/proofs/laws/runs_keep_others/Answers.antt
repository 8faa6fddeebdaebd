use Rattle.trace_audit.proofs.Audits.{all_stays}
use Rattle.trace_audit.proofs.laws.runs_keep_others.Goals as goal

pub returns : goal.returns
returns g c = λ f old new t r is runs. all_stays old new t runs.entries is runs.steps
