use Rattle.serve_faults.proofs.PrintableRuns.{tables_hold}
use Rattle.serve_faults.proofs.laws.tables_are_printable.Goals as goal

pub returns : goal.returns
returns c = λ names file opened requests n named opens printable. tables_hold names file opened requests named opens printable n
