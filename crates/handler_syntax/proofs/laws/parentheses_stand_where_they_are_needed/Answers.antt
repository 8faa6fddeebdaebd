use Rattle.handler_syntax.proofs.Parentheses.{parentheses}
use Rattle.handler_syntax.proofs.laws.parentheses_stand_where_they_are_needed.Goals as goal

pub returns : goal.returns
returns c = parentheses
