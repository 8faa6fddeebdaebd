use Rattle.may_use_analysis.proofs.Answered.{answered}
use Rattle.may_use_analysis.proofs.laws.some_answer.Goals as goal

pub returns : goal.returns
returns c = answered
