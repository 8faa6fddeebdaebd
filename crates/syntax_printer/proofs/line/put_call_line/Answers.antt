use Rattle.syntax_printer.proofs.Loops.{adds_both}
use Rattle.syntax_printer.proofs.line.put_call_line.Goals as goal

pub returns : goal.returns
returns g c = adds_both c.put_indent.ensures (adds_both c.put_call.ensures c.put.ensures)
