use Rattle.std.proofs.Common.{take}
use Rattle.std.specs.List.{All}
use Rattle.waiting_pairs.specs.Delays.{Delays}
use Rattle.waiting_pairs.proofs.known.delays_none.Given as goal

abbrev pub invariant-loop-op : goal.invariant-loop-op
invariant-loop-op l = All (λ o. Delays l.symbol o → ⊥) (take l.op-index l.ops)
