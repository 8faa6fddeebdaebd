use Rattle.syntax_printer.proofs.Loops.{adds_both, adds_bytes}
use Rattle.syntax_printer.proofs.line.put_repeat_head.Goals as goal

pub returns : goal.returns
returns g c = adds_both c.put_indent.ensures (adds_both c.put.ensures (adds_both (adds_bytes c.format.ensures.text c.put-2.ensures) (adds_both c.put-3.ensures (adds_both c.put_name.ensures c.put-4.ensures))))
