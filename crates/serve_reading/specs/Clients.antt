-- What is made of a session file whose requests are several clients' before they are served.
use Rattle.std.specs.Prelude.{◌≡◌, ℕ, ◌≤◌, List, length}
use Rattle.session_values.specs.OpeningLimits.{max_table_lines}
use Rattle.session_values.specs.Opening.{count_all}
use Rattle.request_files.specs.Clients.{AreShared, row_counts, unmarked}
use Rattle.request_files.specs.Text.{lines}
use Rattle.serve_faults.specs.Input.{Parts, parts_by, parts_of}
use Rattle.serve_reading.specs.declared.clients.LoadedClients.{LoadedClients}
use Rattle.serve_reading.specs.declared.session.Loaded.{Loaded}
use Rattle.serve_reading.specs.Sessions.{IsLoaded}

-- these parts, with the requests of all clients, without the marks between them
abbrev pub joined_parts : Parts → Parts
joined_parts p = parts_by p.handlers p.tables (unmarked p.requests) p.first_table p.first

-- the session of the requests of all clients, where all its names are taken for the handlers'
abbrev pub joined : LoadedClients → Loaded
joined l = record {
  names = l.names;
  handler_names = length l.names;
  program = l.program;
  opening = l.opening;
  requests = l.clients.requests;
}

-- what is loaded is the session of the requests of all clients in these parts, as many of each
-- client as stand between its marks, and few entries
pub record AreClients (parts : Parts) (l : LoadedClients) : Type 0 where
  pub is_session : IsLoaded (joined_parts parts) (joined l)
  pub counts_are : l.clients.counts ≡ row_counts (lines parts.requests)
  pub shared : AreShared l.clients
  pub few : count_all l.opening ≤ max_table_lines

-- so it is with the parts of a session file
abbrev pub IsLoadedClients : List ℕ → LoadedClients → Type 0
IsLoadedClients input l = AreClients (parts_of input) l
