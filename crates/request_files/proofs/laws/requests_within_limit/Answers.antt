use Rattle.request_files.proofs.FirstFaults.{one_too_many, many_refused}
use Rattle.request_files.proofs.laws.requests_within_limit.Goals as goal

pub returns-clause-told : goal.returns-clause-told
returns-clause-told c = one_too_many

pub returns-clause-refused : goal.returns-clause-refused
returns-clause-refused c = many_refused
