use Rattle.syntax_printer.proofs.Points.{handler_counted}
use Rattle.handler_syntax.proofs.laws.each_point_has_its_line.Goals as goal

pub returns : goal.returns
returns c = handler_counted
