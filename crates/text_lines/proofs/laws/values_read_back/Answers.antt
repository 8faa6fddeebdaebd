use Rattle.text_lines.proofs.ValuesBack.{values_back}
use Rattle.text_lines.proofs.laws.values_read_back.Goals as goal

pub returns : goal.returns
returns c = values_back
