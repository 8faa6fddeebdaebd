use Rattle.text_lines.proofs.WholeLines.{words_are}
use Rattle.text_lines.proofs.laws.words_of_line.Goals as goal

pub returns : goal.returns
returns c = words_are
