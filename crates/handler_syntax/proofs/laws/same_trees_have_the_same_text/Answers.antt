use Rattle.handler_syntax.proofs.SameText.{same_text}
use Rattle.handler_syntax.proofs.laws.same_trees_have_the_same_text.Goals as goal

pub returns : goal.returns
returns c = same_text
