-- What contracts see of a feed.
use Rattle.std.specs.Prelude.{◌≡◌, ℕ, ◌+◌, ◌++◌, List, length, min, sum, slice_get, Some}
use Rattle.reply_sheet.specs.declared.arrival.Arrival.{Arrival}

-- a client's feeder: the client, how many requests it has, and how many were sent
pub record FeederView : Type 0 where
  pub client : ℕ
  pub count : ℕ
  pub sent : ℕ

-- the same feeder, when all requests of its client were sent
abbrev pub all_sent : FeederView → FeederView
all_sent f = record { client = f.client; count = f.count; sent = f.count }

-- the gatherer: how many requests each client has, and what arrived so far
pub record GathererView : Type 0 where
  pub counts : List ℕ
  pub got : List Arrival

-- a list of arrivals, with room for so many
pub record ArrivalsView : Type 0 where
  pub list : List Arrival
  pub room : ℕ

-- one feeder for each client, which sent nothing
pub record AreFeeders (counts : List ℕ) (feeders : List FeederView) : Type 0 where
  pub many : length feeders ≡ length counts
  pub each : (i n : ℕ) → slice_get counts i ≡ Some n
      → slice_get feeders i ≡ Some (record { client = i; count = n; sent = 0 })

-- what gathering leaves: so many arrivals more, the smaller of what is asked and what is left
pub record HasGathered (g h : GathererView) (old new : ArrivalsView) (most : ℕ) : Type 0 where
  pub arrivals : List Arrival
  pub got : h.got ≡ g.got ++ arrivals
  pub counts : h.counts ≡ g.counts
  pub list : new.list ≡ old.list ++ arrivals
  pub room : new.room ≡ old.room
  pub many : length h.got ≡ min (length g.got + most) (sum g.counts)
