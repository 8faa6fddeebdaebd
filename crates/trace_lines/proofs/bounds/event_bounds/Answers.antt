use Rattle.std.proofs.Common.{sym}
use Rattle.trace_lines.proofs.Told.{held_more}
use Rattle.trace_lines.proofs.bounds.event_bounds.Goals as goal

pub loop-e-preserved : goal.loop-e-preserved
loop-e-preserved c = held_more c.args.events.now c.loop-e.e-index c.e-item.result c.loop-e-test.true (sym c.e-item.is) c.bounds_of.ensures c.loop-e.invariant
