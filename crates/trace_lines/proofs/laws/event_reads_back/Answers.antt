use Rattle.trace_lines.proofs.Reading.{event_back}
use Rattle.trace_lines.proofs.laws.event_reads_back.Goals as goal

pub returns : goal.returns
returns c = λ names tables shape e distinct differ readable. event_back names tables shape distinct differ e readable
