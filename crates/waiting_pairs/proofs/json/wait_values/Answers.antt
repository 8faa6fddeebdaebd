use Rattle.waiting_pairs.specs.Json.{wait_value}
use Rattle.waiting_pairs.proofs.Objects.{values_more}
use Rattle.waiting_pairs.proofs.json.wait_values.Goals as goal

pub loop-wait-preserved : goal.loop-wait-preserved
loop-wait-preserved c = values_more (wait_value c.args.names.now c.args.program.now.file c.args.text.now) c.args.waits.now c.loop-wait.wait-index c.wait-item.result c.loop-wait.values.items c.push.new.self.items c.in_ok-wait_value.field-0 c.loop-wait-test.true c.wait-item.is c.in_ok-push.ensures.items c.in_ok-wait_value.ensures c.loop-wait.invariant
