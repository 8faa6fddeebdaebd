-- While numbers are listed: those of the arrivals so far are there.
use Rattle.std.proofs.Common.{◌≡◌, ◌≤◌, length, take, vec_capacity}
use Rattle.client_feed.specs.Numbers.{numbers_of}
use Rattle.client_feed.proofs.picking.requests_of.Given as goal

abbrev pub invariant-loop-arrival : goal.invariant-loop-arrival
invariant-loop-arrival l = (l.numbers.items ≡ numbers_of l.clients.counts (take l.arrival-index l.arrivals)) × (length l.arrivals ≤ vec_capacity l.numbers)
