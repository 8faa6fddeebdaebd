use Rattle.file_laws.proofs.Judged.{judged}
use Rattle.file_laws.proofs.laws.accepted_traces_are_serial.Goals as goal

pub returns : goal.returns
returns c = λ input n a. judged input n a.0 a.1
