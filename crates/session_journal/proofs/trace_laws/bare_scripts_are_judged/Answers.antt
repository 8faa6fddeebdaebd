use Rattle.session_journal.proofs.Bare.{verdict, verdict_back}
use Rattle.session_journal.proofs.trace_laws.bare_scripts_are_judged.Goals as goal

pub returns-clause-there : goal.returns-clause-there
returns-clause-there c = λ m J v a. verdict m J v a

pub returns-clause-back : goal.returns-clause-back
returns-clause-back c = λ m J v a. verdict_back m J v a
