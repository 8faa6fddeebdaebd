use Rattle.std.proofs.Common.{get_or}
use Rattle.std.proofs.lemmas.List.{get_or_default}
use Rattle.waiting_pairs.specs.Steps.{way}
use Rattle.waiting_pairs.proofs.Mapped.{items_more}
use Rattle.waiting_pairs.proofs.ways.ways.Goals as goal

pub loop-t-preserved : goal.loop-t-preserved
loop-t-preserved c =
    let t = get_or c.args.heads.now c.loop-t.t-index 0 in
    items_more (way c.args.table.now) c.args.heads.now c.loop-t.t-index t c.loop-t.ways.items c.push.new.self.items c.in_ok-way.field-0
    c.loop-t-test.true (get_or_default c.args.heads.now c.loop-t.t-index 0 t c.loop-t-test.true) c.in_ok-push.ensures.items c.in_ok-way.ensures c.loop-t.invariant
