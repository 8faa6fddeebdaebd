use Rattle.std.proofs.Common.{sym, arith}
use Rattle.serve_core.proofs.CountLemmas.{done_operations_more}
use Rattle.serve_core.proofs.counting.count_calls.Goals as goal

pub loop-event-preserved : goal.loop-event-preserved
loop-event-preserved c =
    let more = done_operations_more c.args.events.now c.loop-event.event-index c.event-item.result c.loop-event-test.true (sym c.event-item.is) in
    let old = c.loop-event.invariant.calls in
    let below = c.loop-event.invariant.few in
    let one = c.count_done-calls.ensures.calls in
    let few = c.count_done-calls.ensures.few in
    record { calls = omega (arith, old, one, more); few = omega (arith, below, few) }
