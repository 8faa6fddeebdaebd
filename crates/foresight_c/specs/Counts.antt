-- What a session holds, as C is told.
use Rattle.std.specs.Prelude.{◌≡◌, ℕ, ◌<◌, ◌≤◌, ◌⊎◌, List, [], length, map, Some, None}
use Rattle.session_values.specs.Tables.{size_of, table}
use Rattle.symbolic_ops.specs.declared.symbol.Symbol.{Symbol}
use Rattle.driven_tickets.specs.declared.open_ticket.OpenTicket.{OpenTicket}
use Rattle.driven_tickets.specs.Tickets.{IsOldestOpen, declared_in}
use Rattle.live_session.specs.Live.{LiveView}
use Rattle.foresight_c.specs.declared.counts.Counts.{Counts}
use Rattle.foresight_c.specs.declared.desk.Desk.{Desk}
use Rattle.foresight_c.specs.declared.desk.Desk.TheVariants.{Tables, Session}
use Rattle.foresight_c.specs.declared.values.COperation.{COperation}
use Rattle.foresight_c.specs.Fronts.{put_at_front}
use Rattle.foresight_c.specs.Numbers.{fine, misfit, no_ticket, wrong}
use Rattle.foresight_c.specs.Values.{told_symbol}

-- the oldest of the open tickets, and 0 where none is open
abbrev pub IsOldestTold : List OpenTicket → ℕ → Type 0
IsOldestTold os t = ((os ≡ []) × (t ≡ 0)) ⊎ IsOldestOpen os t

-- what a session holds: its names and how many there may be, its tables, the tickets that have begun,
-- those that are open, and the oldest of them; and how often its names were renewed
pub record AreCounts (v : LiveView) (c : Counts) : Type 0 where
  pub names : c.names ≡ length v.names
  pub most_names : c.most_names ≡ v.most_names
  pub tables : c.tables ≡ length v.tables
  pub begun : c.begun ≡ v.tickets.next
  pub open_tickets : c.open ≡ length v.tickets.tickets
  pub oldest : IsOldestTold v.tickets.tickets c.oldest
  pub generation : c.generation ≡ v.generation

-- how many entries the table of this number has, if there is one
abbrev pub SizeAt : LiveView → ℕ → ℕ → ℕ → ℕ → Type 0
SizeAt v t was size n =
    ((length v.tables ≤ t) × (size ≡ was) × (n ≡ misfit))
    ⊎ ((t < length v.tables) × (size ≡ size_of (table v.tables t)) × (n ≡ fine))

-- what an open ticket has declared stands at the front of a room, as many symbols as the room takes,
-- and how many there are is told; where the ticket isn't open, nothing is
abbrev pub DeclaredAt : LiveView → ℕ → List COperation → List COperation → ℕ → ℕ → ℕ → Type 0
DeclaredAt v t out out_new was size n =
    ((declared_in v.tickets.tickets t ≡ None) × (out_new ≡ out) × (size ≡ was) × (n ≡ no_ticket))
    ⊎ ((ys : List Symbol) × (declared_in v.tickets.tickets t ≡ Some ys)
    × (out_new ≡ put_at_front out (map told_symbol ys)) × (size ≡ length ys) × (n ≡ fine))

-- ---- at a desk, which stays as it is: tables alone are no session
abbrev pub CountsOn : Desk → Counts → Counts → ℕ → Type 0
CountsOn (Session d) was c n = AreCounts d.session c × (n ≡ fine)
CountsOn (Tables d) was c n = (c ≡ was) × (n ≡ wrong)

abbrev pub SizeOn : Desk → ℕ → ℕ → ℕ → ℕ → Type 0
SizeOn (Session d) t was size n = SizeAt d.session t was size n
SizeOn (Tables d) t was size n = (size ≡ was) × (n ≡ wrong)

abbrev pub DeclaredOn : Desk → ℕ → List COperation → List COperation → ℕ → ℕ → ℕ → Type 0
DeclaredOn (Session d) t out out_new was size n = DeclaredAt d.session t out out_new was size n
DeclaredOn (Tables d) t out out_new was size n =
    (out_new ≡ out) × (size ≡ was) × (n ≡ wrong)
