use Rattle.std.proofs.Common.{take}
use Rattle.driven_tickets.specs.Tickets.{AllPairsCommute}
use Rattle.driven_tickets.proofs.standing.lists_commute.Given as goal

abbrev pub invariant-loop-s : goal.invariant-loop-s
invariant-loop-s l = AllPairsCommute (take l.s-index l.list) l.other
