use Rattle.std.proofs.Common.{ap, ◌∙◌}
use Rattle.std.specs.Prelude.{slice_get}
use Rattle.session_values.specs.Kinds.{word_of}
use Rattle.symbolic_ops.specs.declared.symbol.Symbol.{Symbol}
use Rattle.syntax_printer.specs.Points.{named_text}
use Rattle.syntax_printer.proofs.Loops.{adds_at, adds_both, adds_bytes}
use Rattle.syntax_printer.proofs.point.put_symbol.Goals as goal

pub returns : goal.returns
returns g c =
    let tables = (g.D.Declarations.at_points c.args.at.now).tables in
    let word = adds_bytes (c.word.ensures ∙ ap (λ (x : Symbol). word_of x.kind) c.s.view_is) c.put.ensures in
    let table = adds_at (named_text c.args.names.now) (c.table.ensures ∙ ap (λ (x : Symbol). slice_get tables x.table) c.s.view_is) c.put_named.ensures in
    adds_both word (adds_both c.put-2.ensures (adds_both table (adds_both c.put_args.ensures c.put-3.ensures)))
