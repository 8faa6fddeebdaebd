use Rattle.request_files.proofs.FirstFaults.{calls_pass, calls_refused}
use Rattle.request_files.proofs.laws.calls_within_limit.Goals as goal

pub returns-clause-told : goal.returns-clause-told
returns-clause-told c = calls_pass

pub returns-clause-refused : goal.returns-clause-refused
returns-clause-refused c = calls_refused
