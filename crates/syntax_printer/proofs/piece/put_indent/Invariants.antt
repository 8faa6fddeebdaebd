use Rattle.std.proofs.Common.{◌-◌}
use Rattle.syntax_printer.specs.Canonical.{indent}
use Rattle.syntax_printer.proofs.Loops.{Owes}
use Rattle.syntax_printer.proofs.piece.put_indent.Given as goal

abbrev pub invariant-blocks-2 : goal.invariant-blocks-2
invariant-blocks-2 g l = Owes g.T.TextSink.IsDue (indent l.depth) (indent (l.depth - l.counter)) l.fn.out l.out
