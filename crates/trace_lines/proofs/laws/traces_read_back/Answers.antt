use Rattle.trace_lines.proofs.WrittenBack.{trace_back, written_fine}
use Rattle.trace_lines.proofs.laws.traces_read_back.Goals as goal

pub returns-clause-events : goal.returns-clause-events
returns-clause-events c = λ names new tables shape n es trace distinct differ named readable read. trace_back names tables shape named new n es trace distinct differ readable read

pub returns-clause-fine : goal.returns-clause-fine
returns-clause-fine c = λ names tables shape n es distinct differ named readable few. written_fine names tables shape named n es distinct differ readable few
