-- The tickets of clients: the places of their requests among all arrivals.
use Rattle.std.specs.Prelude.{◌≡◌, ℕ, List, [], ◌∷◌, ◌++◌, Contains, Option, Some, None, slice_get}
use Rattle.session_values.specs.declared.reply.Reply.{Reply}
use Rattle.reply_sheet.specs.declared.arrival.Arrival.{Arrival}
use Rattle.reply_sheet.specs.ClientText.{client_line, client_tickets}

-- the tickets of a client, of all arrivals
abbrev pub tickets_of : ℕ → List Arrival → List ℕ
tickets_of client got = client_tickets client 0 got

-- the ticket is the place of this arrival, and among the tickets of its client and of no other
pub record IsTicketOf (got : List Arrival) (t : ℕ) (x : Arrival) : Type 0 where
  pub at : slice_get got t ≡ Some x
  pub among : Contains (tickets_of x.client got) t
  pub only : (client : ℕ) → Contains (tickets_of client got) t → client ≡ x.client

-- the line of a client's ticket with its reply; nothing where the ticket has none
abbrev pub ticket_line : List (List ℕ) → ℕ → ℕ → Option Reply → List ℕ
ticket_line names client ticket None = []
ticket_line names client ticket (Some r) = client_line names client ticket r

-- the lines of these tickets, in their order, each with the reply at its place
abbrev pub lines_of : List (List ℕ) → ℕ → List Reply → List ℕ → List ℕ
lines_of names client rs [] = []
lines_of names client rs (t ∷ ts) =
    ticket_line names client t (slice_get rs t) ++ lines_of names client rs ts
