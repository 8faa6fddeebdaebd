use Rattle.text_lines.proofs.WordsBack.{rows_back}
use Rattle.text_lines.proofs.laws.rows_read_back.Goals as goal

pub returns : goal.returns
returns c = rows_back
