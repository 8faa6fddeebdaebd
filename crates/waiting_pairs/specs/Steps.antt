-- How many tickets may follow each ticket in a chain. Only this crate's own functions cite it.
use Rattle.std.specs.Prelude.{◌≡◌, ℕ, zero, suc, ◌+◌, ◌<◌, ◌≤◌, nat_lt, if◌then◌else◌, List, [], ◌∷◌, length, slice_index_or, slice_set, Option, Some, None, ◌&&◌}
use Rattle.std.specs.List.{filter_map}
use Rattle.waiting_pairs.specs.declared.delay.Delay.{Delay}
use Rattle.waiting_pairs.specs.declared.links.Link.{Link}
use Rattle.waiting_pairs.specs.declared.links.Step.{Step}

-- the link of a delay: of a request's ticket, with an older one
abbrev pub link_of : ℕ → Delay → Option Link
link_of tickets d =
    if nat_lt d.older d.ticket && nat_lt d.ticket tickets
    then Some (record { ticket = d.ticket; older = d.older }) else None

abbrev pub links : ℕ → List Delay → List Link
links tickets = filter_map (link_of tickets)

-- ---- tables

-- no ticket follows
abbrev pub no_step : Step
no_step = record { count = 0; next = 0 }

abbrev pub step_at : List Step → ℕ → Step
step_at table t = slice_index_or table t no_step

-- the link at a place
abbrev pub no_link : Link
no_link = record { ticket = 0; older = 0 }

abbrev pub link_at : List Link → ℕ → Link
link_at ls k = slice_index_or ls k no_link

-- a longer way by this link, if it is one
abbrev pub raised : List Step → Link → List Step
raised table l =
    if nat_lt (step_at table l.older).count (step_at table l.ticket).count then table
    else slice_set table l.ticket (record { count = (step_at table l.older).count + 1; next = l.older })

-- as many as the number of a ticket follow it at most, and the next is one of the table
pub record IsTable (tickets : ℕ) (table : List Step) : Type 0 where
  pub sized : length table ≡ tickets
  pub low : (t : ℕ) → (step_at table t).count ≤ t
  pub within : (t : ℕ) → t < tickets → (step_at table t).next < tickets

-- one of the first links leads from this ticket to its next one, behind which one less follows
pub record IsStep (ls : List Link) (i : ℕ) (table : List Step) (t : ℕ) : Type 0 where
  pub at : ℕ
  pub before : at < i
  pub link : link_at ls at ≡ record { ticket = t; older = (step_at table t).next }
  pub less : (step_at table t).count ≡ (step_at table (step_at table t).next).count + 1

-- so it is behind the first links
pub record IsSettled (ls : List Link) (i : ℕ) (table : List Step) : Type 0 where
  pub above : (k : ℕ) → k < i → (step_at table (link_at ls k).older).count
      < (step_at table (link_at ls k).ticket).count
  pub steps : (t : ℕ) → 0 < (step_at table t).count → IsStep ls i table t

-- ---- ways

-- the tickets that follow one, as many as these
abbrev pub rest_of : List Step → ℕ → ℕ → List ℕ
rest_of table zero t = []
rest_of table (suc n) t = (step_at table t).next ∷ rest_of table n (step_at table t).next

abbrev pub way : List Step → ℕ → List ℕ
way table t = t ∷ rest_of table (step_at table t).count t
