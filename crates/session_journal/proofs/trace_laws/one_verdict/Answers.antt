use Rattle.session_journal.proofs.OneVerdict.{one}
use Rattle.session_journal.proofs.trace_laws.one_verdict.Goals as goal

pub returns : goal.returns
returns c = λ m J v w x y. one m J v w x y
