use Rattle.table_lines.proofs.WordsBack.{rows_back}
use Rattle.table_lines.proofs.text_laws.text_reads_back.Goals as goal

pub returns : goal.returns
returns c = rows_back
