use Rattle.syntax_printer.proofs.Loops.{adds_both}
use Rattle.syntax_printer.proofs.line.put_else.Goals as goal

pub returns : goal.returns
returns g c = adds_both c.put_indent.ensures c.put.ensures
