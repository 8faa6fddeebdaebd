use Rattle.serve_faults.proofs.OneAnswer.{same_answer}
use Rattle.serve_faults.proofs.laws.one_answer.Goals as goal

pub returns : goal.returns
returns c = λ words bytes a b. same_answer words bytes a b
