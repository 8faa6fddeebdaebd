use Rattle.text_lines.proofs.WholeTexts.{lines_are}
use Rattle.text_lines.proofs.laws.lines_of_text.Goals as goal

pub returns : goal.returns
returns c = lines_are
