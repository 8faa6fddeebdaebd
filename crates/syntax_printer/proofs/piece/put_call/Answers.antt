use Rattle.std.proofs.Common.{map}
use Rattle.syntax_printer.specs.Canonical.{atom_text, further}
use Rattle.syntax_printer.proofs.Loops.{adds_at, adds_both, adds_bytes}
use Rattle.syntax_printer.proofs.piece.put_call.Goals as goal

pub returns : goal.returns
returns g c = adds_both (adds_bytes c.word.ensures c.put.ensures) (adds_both c.put-2.ensures (adds_both c.put_name.ensures (adds_both (adds_at (λ xs. further (map (atom_text c.args.names.now) xs)) c.as_slice.ensures c.put_arguments.ensures) c.put-3.ensures)))
