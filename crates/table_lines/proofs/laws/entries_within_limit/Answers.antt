use Rattle.table_lines.proofs.RowFaults.{one_too_many, many_refused}
use Rattle.table_lines.proofs.laws.entries_within_limit.Goals as goal

pub returns-clause-told : goal.returns-clause-told
returns-clause-told c = one_too_many

pub returns-clause-refused : goal.returns-clause-refused
returns-clause-refused c = many_refused
