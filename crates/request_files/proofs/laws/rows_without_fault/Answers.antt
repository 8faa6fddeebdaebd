use Rattle.request_files.proofs.RowFaults.{without_fault}
use Rattle.request_files.proofs.laws.rows_without_fault.Goals as goal

pub returns : goal.returns
returns c = without_fault
