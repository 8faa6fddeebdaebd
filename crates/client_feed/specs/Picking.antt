-- Arrivals whose requests can be picked.
use Rattle.std.specs.Prelude.{ℕ, List, ◌++◌}
use Rattle.client_feed.specs.Arrival.{Arrival}
use Rattle.client_feed.specs.Arrivals.{IsDrawn}

-- they came behind others of the same clients
pub record AreArrivals (counts : List ℕ) (arrivals : List Arrival) : Type 0 where
  pub before : List Arrival
  pub drawn : IsDrawn counts (before ++ arrivals)
