use Rattle.text_lines.proofs.WordsBack.{words_back}
use Rattle.text_lines.proofs.laws.words_read_back.Goals as goal

pub returns : goal.returns
returns c = words_back
