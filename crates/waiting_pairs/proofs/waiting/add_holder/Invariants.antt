use Rattle.std.proofs.Common.{List, ◌<◌, ◌-◌}
use Rattle.waiting_pairs.specs.Again.{AreAlike}
use Rattle.waiting_pairs.specs.declared.asked.Asked.{Asked}
use Rattle.waiting_pairs.specs.Chosen.{IsKnown}
use Rattle.waiting_pairs.specs.Waits.{Adds, at_point, gather}
use Rattle.waiting_pairs.proofs.waiting.add_holder.Given as goal

abbrev pub invariant-loop-point : goal.invariant-loop-point
invariant-loop-point l = (asked : List Asked) → IsKnown asked l.fn.known
    → IsKnown asked l.known × Adds (gather (at_point l.program asked l.holder) l.point) l.fn.out.items l.out.items
    × (0 < l.point → AreAlike l.program asked l.holder (l.point - 1) l.last.items)
