use Rattle.session_journal.proofs.Counting.{accepted_few}
use Rattle.session_journal.proofs.trace_laws.accepted_are_few.Goals as goal

pub returns : goal.returns
returns c = λ m J S a. accepted_few m J S a
