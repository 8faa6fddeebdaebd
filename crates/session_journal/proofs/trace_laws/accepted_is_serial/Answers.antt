use Rattle.session_journal.proofs.TraceSerial.{same_entries, same_answer}
use Rattle.session_journal.proofs.trace_laws.accepted_is_serial.Goals as goal

pub returns-clause-entries : goal.returns-clause-entries
returns-clause-entries c = λ m J t S a l. same_entries m J S a t l

pub returns-clause-answer : goal.returns-clause-answer
returns-clause-answer c = λ m J t S a l. same_answer m J S a t l
