use Rattle.table_lines.proofs.ReadBack.{tables_back}
use Rattle.table_lines.proofs.laws.tables_read_back.Goals as goal

pub returns : goal.returns
returns c = tables_back
