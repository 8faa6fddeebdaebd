use Rattle.syntax_printer.proofs.Loops.{adds_both, adds_at}
use Rattle.syntax_printer.specs.Points.{symbols_text}
use Rattle.syntax_printer.proofs.point.put_declaration.Goals as goal

pub returns : goal.returns
returns g c =
    let a = g.D.Declarations.at_points c.args.at.now in
    adds_both c.put_indent.ensures (adds_both c.put.ensures (adds_both (adds_at (symbols_text c.args.names.now a.tables (a.variables c.args.spot.handler)) c.symbols.ensures c.put_symbols.ensures) c.put-2.ensures))
