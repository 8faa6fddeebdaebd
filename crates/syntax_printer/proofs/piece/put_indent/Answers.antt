use Rattle.syntax_printer.proofs.Loops.{indent_turn, indent_end}
use Rattle.syntax_printer.proofs.piece.put_indent.Goals as goal

pub blocks-2-preserved : goal.blocks-2-preserved
blocks-2-preserved g c = indent_turn c.args.depth c.blocks-2.counter c.blocks-2-test.true c.blocks-2.invariant c.put.ensures

pub returns : goal.returns
returns g c = indent_end c.args.depth c.blocks-2.counter c.blocks-2-test.false c.blocks-2.invariant
