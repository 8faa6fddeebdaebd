-- While a feeder sends: client and count stay.
use Rattle.std.proofs.Common.{◌≡◌, ◌≤◌}
use Rattle.client_feed.proofs.feeder.Feeder.send_all.Given as goal

abbrev pub invariant-loop : goal.invariant-loop
invariant-loop g l = (l.self.client ≡ l.fn.self.client) × (l.self.count ≡ l.fn.self.count) × (l.self.sent ≤ l.self.count)
