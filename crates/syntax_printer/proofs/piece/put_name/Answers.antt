use Rattle.std.proofs.Common.{[], ◌++◌, ap, sym}
use Rattle.std.specs.Prelude.{unwrap_or}
use Rattle.syntax_printer.proofs.Loops.{adds_as}
use Rattle.syntax_printer.proofs.piece.put_name.Goals as goal

pub returns : goal.returns
returns g c = adds_as (λ rest. ap (λ o. unwrap_or o [] ++ rest) (sym c.text.ensures)) c.put.ensures
