use Rattle.std.proofs.Common.{◌≡◌, map, take}
use Rattle.waiting_pairs.specs.Rows.{row_in}
use Rattle.waiting_pairs.proofs.counting.rows_in.Given as goal

abbrev pub invariant-loop-at : goal.invariant-loop-at
invariant-loop-at l = l.rows.items ≡ map row_in (take l.at l.found.entries)
