use Rattle.syntax_printer.proofs.Loops.{adds_both}
use Rattle.syntax_printer.proofs.line.put_assignment.Goals as goal

pub returns : goal.returns
returns g c = adds_both c.put_name.ensures (adds_both c.put.ensures (adds_both c.put_right.ensures c.put-2.ensures))
