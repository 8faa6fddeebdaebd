use Rattle.waiting_pairs.specs.Again.{moved_to}
use Rattle.waiting_pairs.proofs.ChosenLists.{appended_more}
use Rattle.waiting_pairs.proofs.waiting.add_at.Goals as goal

pub loop-wait-preserved : goal.loop-wait-preserved
loop-wait-preserved c = appended_more (moved_to c.args.point) c.args.waits.now c.loop-wait.wait-index c.wait-item.result c.args.out.now.items c.loop-wait.out.items c.push.new.self.items c.loop-wait-test.true c.wait-item.is c.in_ok-push.ensures.items c.loop-wait.invariant
