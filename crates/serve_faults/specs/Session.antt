-- The session of a session file: what is served.
use Rattle.std.specs.Prelude.{◌≡◌, ℕ, zero, suc, ◌+◌, List, [], length, map, Option, None}
use Rattle.session_journal.specs.Opening.{Pair}
use Rattle.session_values.specs.ReplyText.{reply_text}
use Rattle.session_values.specs.Serial.{Session, serial, serial_replies, tables_before}
use Rattle.session_journal.specs.Symbol.{Symbol}
use Rattle.handler_syntax.specs.Language.{names_of, File, IsSourceOf}
use Rattle.handler_check.specs.Checking.{IsAccepted}
use Rattle.may_use_analysis.specs.Later.{AreLater}
use Rattle.request_files.specs.declared.refusal.RequestRefusal.{RequestRefusal}
use Rattle.request_files.specs.declared.request.Request.{Request}
use Rattle.request_files.specs.Text.{lines}
use Rattle.request_files.specs.Requests.{first_fault, no_requests, request_of}
use Rattle.request_files.specs.Rows.{Row, rows, names_behind}
use Rattle.request_files.specs.Session.{session}
use Rattle.table_lines.specs.declared.refusal.TableRefusal.{TableRefusal}
use Rattle.table_lines.specs.Opened.{opened_by}
use Rattle.table_lines.specs.ReadBack.{texts_of}
use Rattle.table_lines.specs.TableRows.{first_table_fault}
use Rattle.table_lines.specs.TableText.{table_text, written_table}
use Rattle.serve_faults.specs.Input.{Parts}

-- the text of handlers has this tree, which breaks no rule, and at no point too many operations may
-- still come
pub record IsProgram (text : List ℕ) (file : File) : Type 0 where
  pub form : IsSourceOf [] text file
  pub accepted : IsAccepted file
  pub lists : List (List (List Symbol))
  pub later : AreLater file lists

-- ---- opening tables

-- the names of the handlers' part
abbrev pub handler_names_of : Parts → List (List ℕ)
handler_names_of parts = names_of [] parts.handlers

-- the lines of the table part that have words
abbrev pub table_rows_of : Parts → List Row
table_rows_of parts = rows parts.first_table (lines parts.tables)

-- the names of the handlers and of the table part
abbrev pub opening_names_of : Parts → List (List ℕ)
opening_names_of parts = names_behind (handler_names_of parts) (table_rows_of parts)

-- the entries with which each table opens: tables go by the names of the handlers' part, symbols by
-- those of both parts
abbrev pub opened_of : Parts → File → List (List Pair)
opened_of parts file = opened_by (handler_names_of parts) (opening_names_of parts) file.tables
    (table_rows_of parts)

-- the first fault of the table part, if there is one
abbrev pub table_fault : Parts → File → Option TableRefusal
table_fault parts file = first_table_fault (handler_names_of parts) file.tables []
    (table_rows_of parts)

-- ---- requests

-- the lines of the requests that have words
abbrev pub rows_of : Parts → List Row
rows_of parts = rows parts.first (lines parts.requests)

-- the names of all parts
abbrev pub all_names_of : Parts → List (List ℕ)
all_names_of parts = names_behind (opening_names_of parts) (rows_of parts)

-- the requests of the lines that have words: handlers go by the names before the requests, symbols
-- by those of all parts
abbrev pub requests_of : Parts → File → List Request
requests_of parts file = map (request_of (opening_names_of parts) (all_names_of parts) file)
    (rows_of parts)

-- the first fault of the requests, if there is one
abbrev pub request_fault : Parts → File → Option RequestRefusal
request_fault parts file = first_fault (opening_names_of parts) file no_requests (rows_of parts)

-- ---- sessions

-- the parts are those of a session with these handlers: no rule is broken, of the handlers, of the
-- table part or of the requests
pub record IsSession (parts : Parts) (file : File) : Type 0 where
  pub program : IsProgram parts.handlers file
  pub tables : table_fault parts file ≡ None
  pub requests : request_fault parts file ≡ None

-- what is served
abbrev pub session_of_parts : Parts → File → Session
session_of_parts parts file = session file (opened_of parts file) (requests_of parts file)

-- the replies of the serial run, as text
abbrev pub replies_text : Parts → File → List ℕ
replies_text parts file = reply_text (all_names_of parts) 0
    (serial_replies (session_of_parts parts file) (session_of_parts parts file).requests)

-- the tables behind the serial run, as text
abbrev pub tables_text : Parts → File → List ℕ
tables_text parts file = table_text (texts_of (all_names_of parts) file.tables)
    (map (written_table (all_names_of parts))
    (tables_before (session_of_parts parts file) (session_of_parts parts file).requests))

-- how many operations the first n tickets of a session make in the serial run
unfoldable pub serial_calls : Session → ℕ → ℕ
serial_calls s zero = 0
serial_calls s (suc t) = serial_calls s t + length (serial s t).entries
