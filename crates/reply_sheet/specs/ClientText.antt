-- The replies of several clients, as text.
use Rattle.std.specs.Prelude.{ℕ, zero, suc, ◌==◌, cond, List, [], ◌∷◌, ◌++◌}
use Rattle.std.specs.Fmt.{decimal}
use Rattle.session_values.specs.declared.reply.Reply.{Reply}
use Rattle.session_values.specs.ReplyText.{line_text}
use Rattle.reply_sheet.specs.declared.arrival.Arrival.{Arrival}

-- a line: the client, a space, and the line of the ticket with its reply
abbrev pub client_line : List (List ℕ) → ℕ → ℕ → Reply → List ℕ
client_line names client ticket r = decimal client ++ 32 ∷ line_text names ticket r

-- the lines of a client, where the first of these arrivals has this ticket: of each of its arrivals,
-- in their order, with the reply
unfoldable pub client_text : List (List ℕ) → ℕ → ℕ → List Arrival → List Reply → List ℕ
client_text names client ticket [] rs = []
client_text names client ticket (x ∷ xs) [] = []
client_text names client ticket (x ∷ xs) (r ∷ rs) =
    cond (x.client == client) (client_line names client ticket r) []
    ++ client_text names client (suc ticket) xs rs

-- the lines of the first n clients, one client's behind the other's: the ticket of an arrival is its
-- place among all
unfoldable pub clients_text : List (List ℕ) → List Arrival → List Reply → ℕ → List ℕ
clients_text names got rs zero = []
clients_text names got rs (suc n) = clients_text names got rs n ++ client_text names n 0 got rs

-- ---- tickets

-- the tickets of a client, where the first of these arrivals has this ticket
abbrev pub client_tickets : ℕ → ℕ → List Arrival → List ℕ
client_tickets client ticket [] = []
client_tickets client ticket (x ∷ xs) =
    cond (x.client == client) (ticket ∷ client_tickets client (suc ticket) xs)
    (client_tickets client (suc ticket) xs)
