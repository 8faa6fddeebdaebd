use Rattle.std.proofs.Common.{◌≡◌, ◌*◌, ◌≤◌}
use Rattle.session_values.specs.Sums.{sum_below}
use Rattle.session_hall.specs.OnShards.{AreHere, keys_of_row}
use Rattle.session_hall.proofs.on_shards.counted.Given as goal

abbrev pub invariant-loop-i : goal.invariant-loop-i
invariant-loop-i g l = AreHere l.hands.pairs l.first l.i
    × (l.count ≡ sum_below l.i (keys_of_row l.hands.pairs l.first)) × (l.count ≤ l.i * 4294967295)
