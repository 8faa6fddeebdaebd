use Rattle.handler_syntax.proofs.Files.{text_again}
use Rattle.handler_syntax.proofs.laws.reads_back.Goals as goal

pub returns : goal.returns
returns c = text_again
