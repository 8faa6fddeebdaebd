use Rattle.handler_check.specs.Rules.{IsBroken}
use Rattle.handler_check.proofs.Firsts.{one_first}
use Rattle.handler_check.proofs.rule_laws.one_is_first.Goals as goal

pub returns : goal.returns
returns c = λ f e g h k. one_first (IsBroken f) e g h k
