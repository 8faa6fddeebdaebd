use Rattle.text_lines.proofs.ValuesBack.{value_back}
use Rattle.text_lines.proofs.laws.value_reads_back.Goals as goal

pub returns : goal.returns
returns c = value_back
