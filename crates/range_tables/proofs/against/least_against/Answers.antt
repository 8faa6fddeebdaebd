use Rattle.range_tables.proofs.Firsts.{delayed_at}
use Rattle.range_tables.proofs.against.least_against.Goals as goal

pub returns-in-Some : goal.returns-in-Some
returns-in-Some c = delayed_at c.args.op.now c.args.holds.now c.loop-h.h c.in-Some.i c.index-holds-h.result c.loop-h-test.true c.index-holds-h.is c.loop-h.invariant c.in-Some.ensures
