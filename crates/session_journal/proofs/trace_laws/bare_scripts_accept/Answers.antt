use Rattle.session_journal.proofs.Bare.{accepted, accepted_back}
use Rattle.session_journal.proofs.trace_laws.bare_scripts_accept.Goals as goal

pub returns-clause-there : goal.returns-clause-there
returns-clause-there c = λ m J a. accepted m J a

pub returns-clause-back : goal.returns-clause-back
returns-clause-back c = λ m J a. accepted_back m J a
