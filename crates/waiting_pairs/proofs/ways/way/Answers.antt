use Rattle.std.proofs.Common.{refl}
use Rattle.waiting_pairs.proofs.WayLemmas.{way_begun, way_ended, way_more}
use Rattle.waiting_pairs.proofs.ways.way.Goals as goal

pub loop-init : goal.loop-init
loop-init c = (c.requires.ticket, way_begun c.args.table.now _ c.args.ticket c.new-way.result.items c.new-way.ensures.items)

pub loop-preserved : goal.loop-preserved
loop-preserved c = (
  c.requires.table.within c.loop.at c.loop.invariant.0,
  way_more c.args.table.now _ c.loop.counter c.loop.at c.loop.way.items c.push.new.self.items _ _ c.loop-test.true c.in_ok-push.ensures.items refl c.loop.invariant.1,
)

pub returns : goal.returns
returns c = way_ended c.args.table.now _ c.loop.counter c.loop.at c.args.ticket c.loop.way.items c.push-2.new.self.items c.loop-test.false c.in_ok-push-2.ensures.items c.loop.invariant.1 refl
