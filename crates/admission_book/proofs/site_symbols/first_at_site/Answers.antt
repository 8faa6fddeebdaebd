use Rattle.symbolic_ops.specs.Instantiate.{symbol_in}
use Rattle.admission_book.proofs.Firsts.{first_mapped}
use Rattle.admission_book.proofs.site_symbols.first_at_site.Goals as goal

pub returns-in-Some : goal.returns-in-Some
returns-in-Some c = first_mapped c.args.op.now (symbol_in c.args.values.now) c.args.symbols.now c.loop-s.s-index c.s-item.result c.in-Some.told c.loop-s-test.true c.s-item.is c.in-Some.ensures.0 c.loop-s.invariant c.in-Some.ensures.1
