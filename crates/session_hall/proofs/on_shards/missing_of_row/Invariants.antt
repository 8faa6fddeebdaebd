use Rattle.session_hall.specs.OnShards.{IsMissing}
use Rattle.session_hall.proofs.on_shards.missing_of_row.Given as goal

abbrev pub invariant-loop-turn : goal.invariant-loop-turn
invariant-loop-turn g l = IsMissing l.hands.pairs l.first l.turn l.set
