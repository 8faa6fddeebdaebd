use Rattle.file_laws.proofs.SomeAnswer.{some_answer}
use Rattle.file_laws.proofs.laws.some_answer.Goals as goal

pub returns : goal.returns
returns c = some_answer
