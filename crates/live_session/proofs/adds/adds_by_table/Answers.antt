use Rattle.std.proofs.Common.{◌+◌, List, sym, subst}
use Rattle.live_session.specs.Held.{AreAdds}
use Rattle.live_session.proofs.Room.{adds_more, no_adds}
use Rattle.live_session.proofs.adds.adds_by_table.Goals as goal

pub loop-table-init : goal.loop-table-init
loop-table-init c = subst (λ (l : List (List _)). AreAdds c.args.checked.now 0 l) (sym c.new-all.ensures.items) (no_adds c.args.checked.now)

pub loop-table-preserved : goal.loop-table-preserved
loop-table-preserved c =
    subst (AreAdds c.args.checked.now (c.loop-table.table + 1)) (sym c.in_ok-push.ensures.items)
    (adds_more c.args.checked.now c.loop-table.table c.loop-table.all.items c.adds_to.result c.loop-table.invariant c.adds_to.ensures.each c.adds_to.ensures.few)
