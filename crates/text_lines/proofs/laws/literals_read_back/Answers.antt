use Rattle.text_lines.proofs.ValuesBack.{literals_back}
use Rattle.text_lines.proofs.laws.literals_read_back.Goals as goal

pub returns : goal.returns
returns c = literals_back
