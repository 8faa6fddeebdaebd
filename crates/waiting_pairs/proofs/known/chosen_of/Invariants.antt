use Rattle.std.proofs.Common.{take}
use Rattle.waiting_pairs.specs.Chosen.{Chosen}
use Rattle.waiting_pairs.proofs.known.chosen_of.Given as goal

abbrev pub invariant-loop-a : goal.invariant-loop-a
invariant-loop-a l = Chosen l.symbol (take l.a-index l.asked) l.found.items
