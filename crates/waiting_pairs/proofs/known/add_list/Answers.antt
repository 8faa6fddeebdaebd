use Rattle.std.proofs.Common.{◌≡◌}
use Rattle.waiting_pairs.specs.Waits.{wait}
use Rattle.waiting_pairs.proofs.ChosenLists.{appended_more}
use Rattle.waiting_pairs.proofs.known.add_list.Goals as goal

pub loop-a-preserved : goal.loop-a-preserved
loop-a-preserved c = appended_more (wait c.args.holder c.args.point c.args.symbol.now) c.args.list.now c.loop-a.a-index c.a-item.result c.args.out.now.items c.loop-a.out.items c.push.new.self.items c.loop-a-test.true c.a-item.is c.in_ok-push.ensures.items c.loop-a.invariant
