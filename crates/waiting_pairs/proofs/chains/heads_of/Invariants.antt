use Rattle.waiting_pairs.specs.Heads.{AreHeads}
use Rattle.waiting_pairs.proofs.chains.heads_of.Given as goal

abbrev pub invariant-loop-t : goal.invariant-loop-t
invariant-loop-t l = AreHeads l.table l.most l.t l.heads.items
