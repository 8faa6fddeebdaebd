-- What contracts see of a session that lives, and what every one keeps.
use Rattle.std.specs.Prelude.{◌≡◌, ℕ, ◌≤◌, List, length, map, None}
use Rattle.std.specs.List.{AllByRecursion}
use Rattle.session_values.specs.Limits.{max_variables}
use Rattle.session_values.specs.Names.{Begins}
use Rattle.session_values.specs.declared.reply.Reply.{Reply}
use Rattle.session_values.specs.Serial.{Session}
use Rattle.session_values.specs.Tables.{Tables, kind_of}
use Rattle.session_values.specs.Opening.{AreEntries, Pair, tables_of}
use Rattle.handler_check.specs.File.{File}
use Rattle.serve_faults.specs.Language.{IsNamedFile}
use Rattle.syntax_trees.specs.Mentions.{AreBelow, file_mentions}
use Rattle.handler_check.specs.Checking.{IsAccepted}
use Rattle.handler_check.specs.Resolved.{shape_of}
use Rattle.text_lines.specs.Rows.{Row, names_behind, rows}
use Rattle.text_lines.specs.Text.{Text, lines}
use Rattle.request_files.specs.declared.request.Request.{Request}
use Rattle.request_files.specs.Requests.{AreKnown, request_of}
use Rattle.request_files.specs.Session.{session}
use Rattle.serve_faults.specs.ReadBack.{texts_of}
use Rattle.serve_faults.specs.TableRows.{ArePrintable}
use Rattle.table_lines.specs.TableText.{table_text, written_table}
use Rattle.serve_faults.specs.Input.{Parts}
use Rattle.serve_faults.specs.Session.{opened_of, opening_names_of}
use Rattle.shard_tables.specs.declared.part.Part.{Part}
use Rattle.shard_tables.specs.Slots.{factor_of}
use Rattle.symbolic_ops.specs.declared.symbol.Symbol.{Symbol}
use Rattle.declaration_insertion.specs.Program.{IsProgram, ProgramView}
use Rattle.driven_tickets.specs.Desk.{DeskView, IsDesk, TicketsView, desk_over}
use Rattle.serve_faults.specs.Printable.{IsPrintableTable}
use Rattle.live_session.specs.Held.{AreAdds, held}
use Rattle.live_session.specs.Served.{AreServed, line_fault}

-- the handlers, and what they declare at their points; the entries with which the tables opened and
-- the names at that time; how many names, the first ones, are the handlers', and the most that
-- there may be; the names and the tables now; the seed by which searches begin, and the factors by
-- which the tables' searches spread their keys; how often the names were renewed; the open tickets;
-- and, which no code reads, how many acts the program did itself, beside the lines, and the lines
-- that were served with their replies. Where the names were renewed, what opened and what was done
-- is counted from then on
pub record LiveView : Type 0 where
  pub file : File
  pub lists : List (List (List Symbol))
  pub opened : List (List Pair)
  pub first_names : List Text
  pub handler_names : ℕ
  pub most_names : ℕ
  pub names : List Text
  pub tables : Tables
  pub seed : ℕ
  pub factors : List ℕ
  pub generation : ℕ
  pub tickets : TicketsView
  pub driven : ℕ
  pub lines : List Text
  pub replies : List Reply

-- the handlers with their declarations
abbrev pub program_in : LiveView → ProgramView
program_in v = record { file = v.file; lists = v.lists }

-- the desk that the open tickets make over the tables
abbrev pub desk_in : LiveView → DeskView
desk_in v = desk_over (tables_of (shape_of v.file) v.opened) v.tables v.tickets

-- the program did nothing itself: each ticket was that of a line, and each name was placed by one
abbrev pub IsUndriven : LiveView → Type 0
IsUndriven v = v.driven ≡ 0

-- the rows of the lines that were served
abbrev pub rows_in : LiveView → List Row
rows_in v = rows 0 v.lines

-- their requests: handlers go by the names at the opening, symbols by those now
abbrev pub requests_in : LiveView → List Request
requests_in v = map (request_of v.first_names v.names v.file) (rows_in v)

-- the session of one file with all these lines
abbrev pub session_in : LiveView → Session
session_in v = session v.file v.opened (requests_in v)

-- the tables as `dump` writes them
abbrev pub dump_of : LiveView → Text
dump_of v = table_text (texts_of v.names v.file.tables) (map (written_table v.names) v.tables)

-- what every session keeps: it was opened over a file that breaks no rule and entries for its
-- tables, and the file mentions names of the handlers alone; no line that was served has a fault; the names begin with those at the opening, and are
-- no more than there may be; each value of its tables can be printed; and all that was done, by
-- lines and by tickets, is a run from the opening tables to what it holds. Where the program did
-- nothing itself, the names are those at the opening and those of the lines, and the requests were
-- served one after another, each alone from the tables that the one before left
pub record IsLive (v : LiveView) : Type 0 where
  pub program : IsProgram (program_in v)
  pub accepted : IsAccepted v.file
  pub opens : AreEntries (shape_of v.file) v.opened
  pub named : IsNamedFile v.first_names v.file
  pub known : AreKnown v.first_names v.file
  pub handlers_below : AreBelow v.handler_names (file_mentions v.file)
  pub handlers_first : v.handler_names ≤ length v.first_names
  pub printable : ArePrintable v.first_names v.opened
  pub fine : AllByRecursion (λ (r : Row). line_fault v.first_names v.file r ≡ None) (rows_in v)
  pub begins : Begins v.first_names v.names
  pub few : length v.names ≤ v.most_names
  pub prints : AllByRecursion (IsPrintableTable v.names) v.tables
  pub seeded : AllByRecursion (λ n. n ≡ factor_of v.seed) v.factors
  pub desk : IsDesk (desk_in v)
  pub names_are : IsUndriven v → v.names ≡ names_behind v.first_names (rows_in v)
  pub served : IsUndriven v → AreServed v.file (tables_of (shape_of v.file) v.opened)
      (requests_in v) v.replies v.tables

-- these parts of a session file are those over which the session was opened, with the lines that it
-- served
pub record IsOneFile (v : LiveView) (parts : Parts) : Type 0 where
  pub names_are : opening_names_of parts ≡ v.first_names
  pub opened_are : opened_of parts v.file ≡ v.opened
  pub lines_are : lines parts.requests ≡ v.lines

-- what a session keeps beside that: the kinds of its tables, the bounds on what its handlers may
-- add to them, room for the arguments of a request, and a bound on the names that a program can
-- hold. Only this crate's own functions cite this.
pub record IsKept (f : File) (most : ℕ) (adds : List (List ℕ)) (parts : List Part)
    (capacity : ℕ) : Type 0 where
  pub kinds : map kind_of (held parts) ≡ shape_of f
  pub adds_are : AreAdds f (length parts) adds
  pub args : max_variables ≤ capacity
  pub most_few : most ≤ 4000000000
