use Rattle.serde_json.specs.View.{view}
use Rattle.waiting_pairs.specs.CountJson.{row_value}
use Rattle.waiting_pairs.proofs.Mapped.{viewed_more}
use Rattle.waiting_pairs.proofs.count_json.row_values.Goals as goal

pub loop-row-preserved : goal.loop-row-preserved
loop-row-preserved c = viewed_more view (row_value c.args.names.now c.args.program.now.file) c.args.rows.now c.loop-row.row-index c.row-item.result c.loop-row.values.items c.push.new.self.items c.in_ok-row_value.field-0 c.loop-row-test.true c.row-item.is c.in_ok-push.ensures.items c.in_ok-row_value.ensures c.loop-row.invariant
