use Rattle.trace_lines.proofs.Again.{written_again}
use Rattle.trace_lines.proofs.laws.event_is_written_again.Goals as goal

pub returns : goal.returns
returns c = written_again
