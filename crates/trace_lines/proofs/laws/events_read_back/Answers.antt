use Rattle.trace_lines.proofs.Lines.{events_back}
use Rattle.trace_lines.proofs.laws.events_read_back.Goals as goal

pub returns : goal.returns
returns c = λ names tables shape es distinct differ named readable. events_back names tables shape named es distinct differ readable
