use Rattle.std.proofs.Common.{ap, arith}
use Rattle.session_values.specs.declared.op.Op.{Op}
use Rattle.symbolic_ops.specs.declared.symbol.Symbol.{Symbol}
use Rattle.symbolic_ops.specs.Instantiate.{symbol_in}
use Rattle.admission_book.proofs.Touches.{other_table}
use Rattle.admission_book.proofs.site_symbols.against.Goals as goal

pub returns-then-s-op : goal.returns-then-s-op
returns-then-s-op c = other_table c.args.op.now (symbol_in c.args.values.now c.args.s.now) c.bounds.ensures (λ same. omega (arith, c.if-s-op.true, ap (λ (s : Symbol). s.table) c.s.view_is, ap (λ (o : Op). o.table) c.op.view_is, same))
