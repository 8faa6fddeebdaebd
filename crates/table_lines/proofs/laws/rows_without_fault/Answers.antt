use Rattle.table_lines.proofs.RowFaults.{without_fault}
use Rattle.table_lines.proofs.laws.rows_without_fault.Goals as goal

pub returns : goal.returns
returns c = without_fault
