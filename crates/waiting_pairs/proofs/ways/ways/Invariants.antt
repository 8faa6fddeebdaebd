use Rattle.std.proofs.Common.{◌≡◌, map, take}
use Rattle.waiting_pairs.specs.Steps.{way}
use Rattle.waiting_pairs.proofs.ways.ways.Given as goal

abbrev pub invariant-loop-t : goal.invariant-loop-t
invariant-loop-t l = map (λ w. w.items) l.ways.items ≡ map (way l.table) (take l.t-index l.heads)
