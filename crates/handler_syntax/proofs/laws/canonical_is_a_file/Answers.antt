use Rattle.handler_syntax.proofs.Files.{canonical_again}
use Rattle.handler_syntax.proofs.laws.canonical_is_a_file.Goals as goal

pub returns : goal.returns
returns c = canonical_again
