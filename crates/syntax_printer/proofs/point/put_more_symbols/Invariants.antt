use Rattle.std.proofs.Common.{map, drop}
use Rattle.syntax_printer.specs.Canonical.{further}
use Rattle.syntax_printer.specs.Points.{symbol_text}
use Rattle.syntax_printer.proofs.Loops.{Owes}
use Rattle.syntax_printer.proofs.point.put_more_symbols.Given as goal

abbrev pub invariant-loop-symbol : goal.invariant-loop-symbol
invariant-loop-symbol g l =
    let a = g.D.Declarations.at_points l.at in
    let text = symbol_text l.names a.tables (a.variables l.handler) in
    Owes g.T.TextSink.IsDue (further (map text l.symbols)) (further (map text (drop l.symbol-index l.symbols))) l.fn.out l.out
