use Rattle.range_tables.proofs.Telling.{told_plain}
use Rattle.range_tables.proofs.commuting.commutes_plain.Goals as goal

pub returns : goal.returns
returns c = told_plain c.args.a.now c.args.b.now c.commute.result c.bounds.ensures c.bounds-2.ensures c.commute.ensures.exact
