use Rattle.serve_faults.proofs.PrintableRuns.{replies_said}
use Rattle.serve_faults.proofs.laws.replies_are_printable.Goals as goal

pub returns : goal.returns
returns c = λ names file opened requests n named opens printable. replies_said names file opened requests named opens printable n
