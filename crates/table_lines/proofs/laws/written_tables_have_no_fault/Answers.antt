use Rattle.table_lines.proofs.NoFault.{tables_fine}
use Rattle.table_lines.proofs.laws.written_tables_have_no_fault.Goals as goal

pub returns : goal.returns
returns c = tables_fine
