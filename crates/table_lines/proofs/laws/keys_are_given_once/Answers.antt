use Rattle.table_lines.proofs.RowFaults.{given_twice, twice_refused}
use Rattle.table_lines.proofs.laws.keys_are_given_once.Goals as goal

pub returns-clause-told : goal.returns-clause-told
returns-clause-told c = given_twice

pub returns-clause-refused : goal.returns-clause-refused
returns-clause-refused c = twice_refused
