use Rattle.syntax_printer.proofs.Parts.{named_cond}
use Rattle.syntax_printer.proofs.Loops.{adds_both, adds_bytes}
use Rattle.syntax_printer.proofs.line.put_cond.Goals as goal

pub put_expr-requires-2 : goal.put_expr-requires-2
put_expr-requires-2 g c = (named_cond c.args.names.now c.args.cond.now c.requires).1

pub returns : goal.returns
returns g c = adds_both c.put_expr.ensures (adds_both (adds_bytes c.comparison.ensures c.put.ensures) c.put_expr-2.ensures)
