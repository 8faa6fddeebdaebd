-- The rule of a feed: read `Feeds` first.
use Rattle.std.specs.Prelude.{◌≡◌, ℕ, suc, ◌≤◌, List, [], ◌∷◌, ◌++◌, true, false}
use mathlib.Core.Option.{Option, some, none}
use lib.ListN.{get_elem?}
use Rattle.reply_sheet.specs.declared.arrival.Arrival.{Arrival}
use Rattle.client_feed.specs.declared.rule.Hand.{Hand}
use Rattle.reply_sheet.specs.Arrivals.{of, Rises, count_at, IsDrawn}

-- what the gatherer knows: for how many clients it made feeders, what it took, and how many
-- requests each client has
abbrev pub gatherer : ℕ → List Arrival → List ℕ → Hand
gatherer made got counts = record {
  sends = false;
  client = 0;
  sent = 0;
  count = 0;
  gets = true;
  made = made;
  got = got;
  counts = counts;
}

-- what a client's feeder knows: how many requests it sent, and how many there are
abbrev pub feeder : ℕ → ℕ → ℕ → Hand
feeder client sent count = record {
  sends = true;
  client = client;
  sent = sent;
  count = count;
  gets = false;
  made = 0;
  got = [];
  counts = [];
}

-- who knows nothing
abbrev pub idle : Hand
idle = record {
  sends = false;
  client = 0;
  sent = 0;
  count = 0;
  gets = false;
  made = 0;
  got = [];
  counts = [];
}

-- Of each client: what was taken and what is in the channel are its places in order from 0, as many
-- as were sent, which are at most as many as it has. Each client has one feeder, which knows how
-- many it sent. One gatherer knows what was taken, and that clients for whom no feeder was made
-- sent nothing.
pub record Feeds (items : List Arrival) (views : List Hand) : Type 0 where
  pub reader : ℕ
  pub seat : ℕ → Option ℕ
  pub sent : ℕ → ℕ
  pub got : List Arrival
  pub counts : List ℕ
  pub order : (p : ℕ) → Rises 0 (of p (got ++ items)) (sent p)
  pub within : (p : ℕ) → sent p ≤ count_at counts p
  pub feeders : (pass : ℕ) (v : Hand) → get_elem? views pass ≡ some v → v.sends ≡ true
      → (seat v.client ≡ some pass) × (v.sent ≡ sent v.client)
      × (v.count ≡ count_at counts v.client)
  pub gatherers : (pass : ℕ) (v : Hand) → get_elem? views pass ≡ some v → v.gets ≡ true
      → (pass ≡ reader) × (v.got ≡ got) × (v.counts ≡ counts)
      × ((p : ℕ) → v.made ≤ p → (seat p ≡ none) × (sent p ≡ 0))

-- a request was sent
pub record HasSent (v : Hand) (x : Arrival) (w : Hand) : Type 0 where
  pub is : w ≡ feeder v.client (suc v.sent) v.count

-- an arrival was taken, and with it what was taken is in order
pub record HasTaken (v : Hand) (x : Arrival) (w : Hand) : Type 0 where
  pub is : w ≡ gatherer v.made (v.got ++ x ∷ []) v.counts
  pub drawn : IsDrawn v.counts (v.got ++ x ∷ [])

abbrev pub Nothing : Hand → List Arrival → Type 0
Nothing v items = Unit {0}
