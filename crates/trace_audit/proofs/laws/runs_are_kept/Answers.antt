use Rattle.trace_audit.proofs.Audits.{audited}
use Rattle.trace_audit.proofs.laws.runs_are_kept.Goals as goal

pub returns : goal.returns
returns g c = λ m old new t r script l is begins runs. audited m old new t r script l is begins runs
