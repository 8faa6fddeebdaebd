use Rattle.waiting_pairs.specs.Heads.{IsMostOf}
use Rattle.waiting_pairs.proofs.chains.most_of.Given as goal

abbrev pub invariant-loop-step : goal.invariant-loop-step
invariant-loop-step l = IsMostOf l.table l.step-index l.most
