use Rattle.std.proofs.Common.{map}
use Rattle.syntax_printer.specs.Canonical.{listed, param_text}
use Rattle.syntax_printer.proofs.Loops.{adds_at, adds_both}
use Rattle.syntax_printer.proofs.file.put_head.Goals as goal

pub returns : goal.returns
returns g c = adds_both c.put.ensures (adds_both c.put_name.ensures (adds_both c.put-2.ensures (adds_both (adds_at (λ xs. listed (map (param_text c.args.names.now) xs)) c.as_slice.ensures c.put_params.ensures) c.put-3.ensures)))
