use Rattle.handler_syntax.proofs.Sources.{source_again}
use Rattle.handler_syntax.proofs.laws.source_reads_back.Goals as goal

pub returns : goal.returns
returns c = source_again
