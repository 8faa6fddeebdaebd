use Rattle.waiting_pairs.specs.Causes.{cause_of}
use Rattle.waiting_pairs.specs.TraceTold.{handlers_of}
use Rattle.waiting_pairs.proofs.Mapped.{mapped_more}
use Rattle.waiting_pairs.proofs.counts.causes_of.Goals as goal

pub loop-delay-preserved : goal.loop-delay-preserved
loop-delay-preserved c = mapped_more (cause_of (handlers_of c.args.requests.now)) c.args.delays.now c.loop-delay.delay-index c.delay-item.result c.loop-delay.found.items c.push.new.self.items c.cause_of.result c.loop-delay-test.true c.delay-item.is c.in_ok-push.ensures.items c.cause_of.ensures c.loop-delay.invariant
