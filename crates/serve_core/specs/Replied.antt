-- The replies of several clients, by the order in which their requests arrive.
use Rattle.std.specs.Prelude.{ℕ, List, length}
use Rattle.session_values.specs.Serial.{serial_replies}
use Rattle.reply_sheet.specs.declared.arrival.Arrival.{Arrival}
use Rattle.reply_sheet.specs.ClientText.{clients_text}
use Rattle.serve_faults.specs.Language.{File}
use Rattle.serve_faults.specs.Clients.{client_counts, session_of_arrivals}
use Rattle.serve_faults.specs.Input.{client_parts}
use Rattle.serve_faults.specs.Session.{all_names_of}

-- the replies that the clients of an input have where their requests arrive in this order, as text
abbrev pub text_of_arrivals : List ℕ → File → List Arrival → List ℕ
text_of_arrivals input file got = clients_text (all_names_of (client_parts input)) got
    (serial_replies (session_of_arrivals input file got) (length got))
    (length (client_counts input))
