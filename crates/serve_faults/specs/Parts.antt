-- The parts of a session file, and what is wrong with an input that hasn't those that are wanted.
use Rattle.std.specs.Prelude.{ℕ, Bool, nat_le, if◌then◌else◌, List, Option, Some, None}
use Rattle.std.specs.List.{list_any}
use Rattle.request_files.specs.Text.{lines}
use Rattle.request_files.specs.Clients.{marks_in, unmarked}
use Rattle.request_files.specs.Divide.{is_dividing, is_mark, is_table_mark, before, behind, line_behind}
use Rattle.serve_faults.specs.declared.status.Fault.{Fault}
use Rattle.serve_faults.specs.declared.status.Fault.TheVariants.{NoRequests, HasRequests, NoTrace, TooManyClients}

-- ---- the parts of a session file

-- the text of the handlers, that of the table part, which is empty where there is none, that of the
-- requests, and the numbers of the first lines of the table part and of the requests
pub record Parts : Type 0 where
  pub handlers : List ℕ
  pub tables : List ℕ
  pub requests : List ℕ
  pub first_table : ℕ
  pub first : ℕ

abbrev pub parts_by : List ℕ → List ℕ → List ℕ → ℕ → ℕ → Parts
parts_by handlers tables requests first_table first = record {
  handlers = handlers;
  tables = tables;
  requests = requests;
  first_table = first_table;
  first = first;
}

-- what stands before the dividing line
abbrev pub front_of : List ℕ → List ℕ
front_of input = before is_dividing input

-- the table part begins at the first line `%% tables` before the dividing line
abbrev pub parts_of : List ℕ → Parts
parts_of input =
    parts_by (before is_table_mark (front_of input)) (behind is_table_mark (front_of input))
    (behind is_dividing input) (line_behind is_table_mark (front_of input))
    (line_behind is_dividing input)

-- these parts, where the requests are several clients': those of all, without the marks between them
abbrev pub of_all_clients : Parts → Parts
of_all_clients parts =
    parts_by parts.handlers parts.tables (unmarked parts.requests) parts.first_table parts.first

-- the parts of a session file of several clients
abbrev pub client_parts : List ℕ → Parts
client_parts input = of_all_clients (parts_of input)

-- whether some line of an input is a dividing line
abbrev pub is_divided : List ℕ → Bool
is_divided input = list_any is_dividing (lines input)

-- whether some line is a dividing line or `%% tables`
abbrev pub has_mark : List ℕ → Bool
has_mark input = list_any is_mark (lines input)

-- ---- what is wrong with an input

-- the most bytes of an input of `audit`
abbrev pub max_audit_input : ℕ
max_audit_input = 67108864

-- a file of handlers alone has no mark
abbrev pub alone_fault : Bool → Option Fault
alone_fault marked = if marked then Some HasRequests else None

-- a session file has a dividing line
abbrev pub divided_fault : Bool → Option Fault
divided_fault divided = if divided then None else Some NoRequests

-- a session file that ends in a trace has a dividing line, and a trace part
abbrev pub traced_fault : Bool → Bool → Option Fault
traced_fault divided traced =
    if divided then (if traced then None else Some NoTrace) else Some NoRequests

-- a session file of several clients has a dividing line, and at most 15 lines `%% next` behind it
abbrev pub clients_fault : Bool → ℕ → Option Fault
clients_fault divided marks =
    if divided then (if nat_le 16 marks then Some TooManyClients else None) else Some NoRequests

-- how many lines `%% next` stand behind the dividing line
abbrev pub client_marks : List ℕ → ℕ
client_marks input = marks_in (lines (parts_of input).requests)
