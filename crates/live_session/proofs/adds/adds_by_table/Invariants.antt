use Rattle.live_session.specs.Held.{AreAdds}
use Rattle.live_session.proofs.adds.adds_by_table.Given as goal

abbrev pub invariant-loop-table : goal.invariant-loop-table
invariant-loop-table l = AreAdds l.checked l.table l.all.items
