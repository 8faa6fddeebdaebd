-- The requests of several clients, served in the order in which they come, and their replies.
use Rattle.std.specs.Prelude.{◌≡◌, ℕ, List, length, sum}
use Rattle.reply_sheet.specs.Arrivals.{IsDrawn}
use Rattle.reply_sheet.specs.declared.arrival.Arrival.{Arrival}
use Rattle.reply_sheet.specs.ClientText.{clients_text}
use Rattle.reply_sheet.specs.Numbers.{numbers_of}
use Rattle.handler_syntax.specs.Language.{File}
use Rattle.request_files.specs.Clients.{row_counts}
use Rattle.request_files.specs.Picked.{picked}
use Rattle.request_files.specs.Session.{session}
use Rattle.session_values.specs.Serial.{Session, serial_replies}
use Rattle.request_files.specs.Text.{lines}
use Rattle.serve_faults.specs.Input.{client_parts, parts_of}
use Rattle.serve_faults.specs.Session.{IsSession, all_names_of, opened_of, requests_of}

-- how many requests each client has
abbrev pub client_counts : List ℕ → List ℕ
client_counts input = row_counts (lines (parts_of input).requests)

-- the session in which the tickets are drawn in the order of these arrivals
abbrev pub session_of_arrivals : List ℕ → File → List Arrival → Session
session_of_arrivals input file got =
    session file (opened_of (client_parts input) file)
    (picked (requests_of (client_parts input) file) (numbers_of (client_counts input) got))

-- The lines of all clients, where all requests arrived, each client's in order and each once, and
-- were served one at a time in the order in which they arrived. The input doesn't say in which.
pub record IsClientsText (input text : List ℕ) : Type 0 where
  pub file : File
  pub is_session : IsSession (client_parts input) file
  pub got : List Arrival
  pub drawn : IsDrawn (client_counts input) got
  pub all : length got ≡ sum (client_counts input)
  pub text_is : text ≡ clients_text (all_names_of (client_parts input)) got
      (serial_replies (session_of_arrivals input file got) (length got))
      (length (client_counts input))
