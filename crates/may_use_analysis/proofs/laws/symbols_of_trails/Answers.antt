use Rattle.may_use_analysis.proofs.Literal.{literally}
use Rattle.may_use_analysis.proofs.laws.symbols_of_trails.Goals as goal

pub returns : goal.returns
returns c = literally
