use Rattle.request_files.proofs.WorkFaults.{work_passes, work_refused}
use Rattle.request_files.proofs.laws.work_within_limit.Goals as goal

pub returns-clause-told : goal.returns-clause-told
returns-clause-told c = work_passes

pub returns-clause-refused : goal.returns-clause-refused
returns-clause-refused c = work_refused
