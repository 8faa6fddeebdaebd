use Rattle.syntax_printer.specs.Points.{nothing_shown}
use Rattle.syntax_printer.proofs.Own.{own_is_canonical}
use Rattle.syntax_printer.proofs.Loops.{ends_as}
use Rattle.syntax_printer.proofs.file.put_canonical.Goals as goal

pub returns : goal.returns
returns g c = ends_as (own_is_canonical c.args.names.now nothing_shown c.args.file.now) c.put_with_declarations.ensures
