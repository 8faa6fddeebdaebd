use Rattle.table_lines.proofs.WrittenOrder.{written_cmp_exact, written_cmp_total}
use Rattle.table_lines.proofs.text_laws.order_of_written.Goals as goal

pub returns-clause-total : goal.returns-clause-total
returns-clause-total c = written_cmp_total

pub returns-clause-exact : goal.returns-clause-exact
returns-clause-exact c = written_cmp_exact
