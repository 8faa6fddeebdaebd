use Rattle.trace_lines.proofs.AsRead.{accepted_as_read}
use Rattle.trace_lines.proofs.laws.accepted_as_read.Goals as goal

pub returns : goal.returns
returns c = λ names m J a. accepted_as_read names m J a
