-- While tables are looked at: of those so far it is known what is listed.
use Rattle.std.proofs.Common.{◌<◌, ℕ}
use Rattle.session_hall.specs.Script.{Meaning}
use Rattle.session_hall.specs.Closings.{IsDone}
use Rattle.session_hall.specs.Listings.{AreLeft, listed}
use Rattle.client_feed.proofs.reopening.look_at_tables.Given as goal

abbrev pub invariant-loop-table : goal.invariant-loop-table
invariant-loop-table l = (t : ℕ) → t < l.table → (m : Meaning) → IsDone m l.closed → AreLeft m t (listed l.closed t)
