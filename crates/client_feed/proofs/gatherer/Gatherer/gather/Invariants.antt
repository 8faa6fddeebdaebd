-- While arrivals are gathered: how many are still wanted.
use Rattle.client_feed.proofs.Gathering.{Gathering}
use Rattle.client_feed.proofs.gatherer.Gatherer.gather.Given as goal

abbrev pub invariant-loop : goal.invariant-loop
invariant-loop g l = Gathering l.fn.self l.self l.fn.out l.out l.most l.wanted
