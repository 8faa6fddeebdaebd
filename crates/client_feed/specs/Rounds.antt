-- Requests of several clients, served in rounds as they arrive.
use Rattle.std.specs.Prelude.{◌≡◌, ℕ, ◌*◌, ◌-◌, ◌<◌, ◌≤◌, List, length, slice_get, sum, take, drop, Option, Some}
use Rattle.session_values.specs.declared.reply.Reply.{Reply}
use Rattle.session_values.specs.Serial.{Session, serial_replies, tables_before}
use Rattle.session_values.specs.Opening.{Pair, tables_of}
use Rattle.session_hall.specs.Closings.{ClosedView, IsDone}
use Rattle.handler_check.specs.Resolved.{shape_of}
use Rattle.declaration_insertion.specs.Program.{ProgramView}
use Rattle.request_files.specs.Clients.{ClientsView}
use Rattle.request_files.specs.Picked.{picked}
use Rattle.request_files.specs.Session.{session}
use Rattle.handler_machine.specs.Scripts.{meaning}
use Rattle.client_feed.specs.Arrival.{Arrival}
use Rattle.client_feed.specs.Arrivals.{IsDrawn}
use Rattle.client_feed.specs.Numbers.{numbers_of}

-- at which ticket a round begins, by how many rounds were before it
abbrev pub round_begin : ℕ → ℕ
round_begin r = 256 * r

-- what was served: the arrivals in their order, a reply for each, and the closed hall of the last
-- round
pub record ServedView : Type 0 where
  pub arrivals : List Arrival
  pub replies : List Reply
  pub closed : Option ClosedView

-- the session in which tickets are drawn in the order of these arrivals
abbrev pub session_by : ProgramView → List (List Pair) → ClientsView → List Arrival → Session
session_by p opened clients got =
    session p.file opened (picked clients.requests (numbers_of clients.counts got))

-- The hall of round r: it served the arrivals of its round, 256 of them or what is left, over tables
-- that opened as the rounds before it left theirs.
pub record IsRound (p : ProgramView) (opened : List (List Pair)) (clients : ClientsView)
    (got : List Arrival) (callers shards r : ℕ) (d : ClosedView) : Type 0 where
  pub some : round_begin r < length got
  pub opening : List (List Pair)
  pub opening_is : tables_of (shape_of p.file) opening
      ≡ tables_before (session_by p opened clients got) (round_begin r)
  pub done : IsDone (meaning (record {
    program = p;
    opening = opening;
    requests = picked clients.requests
        (numbers_of clients.counts (take 256 (drop (round_begin r) got)));
  })) d
  pub callers_are : d.callers ≡ callers
  pub shards_are : d.shards ≡ shards

-- these are the halls of the rounds, in order, and each arrival is of one of these rounds
pub record AreRounds (p : ProgramView) (opened : List (List Pair)) (clients : ClientsView)
    (got : List Arrival) (callers shards : ℕ) (halls : List ClosedView) : Type 0 where
  pub all : length got ≤ round_begin (length halls)
  pub each : (r : ℕ) (d : ClosedView) → slice_get halls r ≡ Some d
      → IsRound p opened clients got callers shards r d

-- the hall of the last round, where there is one
abbrev pub last_hall : List ClosedView → Option ClosedView
last_hall halls = slice_get halls (length halls - 1)

-- All requests were served, with the replies of serving them one at a time in the order in which
-- they arrived. Each round had a hall, and the last one's is left.
pub record AreServed (p : ProgramView) (opened : List (List Pair)) (clients : ClientsView)
    (callers shards : ℕ) (v : ServedView) : Type 0 where
  pub drawn : IsDrawn clients.counts v.arrivals
  pub all : length v.arrivals ≡ sum clients.counts
  pub replies : v.replies
      ≡ serial_replies (session_by p opened clients v.arrivals) (length v.arrivals)
  pub halls : List ClosedView
  pub rounds : AreRounds p opened clients v.arrivals callers shards halls
  pub left : v.closed ≡ last_hall halls
