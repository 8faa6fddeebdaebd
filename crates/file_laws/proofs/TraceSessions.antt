-- The session of a session file with a line feed behind each line is the file's session.
use Rattle.std.proofs.Common.{◌≡◌, true, List, map, ap, ◌∙◌}
use Rattle.handler_syntax.specs.Language.{File}
use Rattle.session_values.specs.Serial.{Session}
use Rattle.text_lines.specs.Rows.{names_behind, rows}
use Rattle.text_lines.specs.Text.{Text}
use Rattle.request_files.specs.Requests.{first_fault, no_requests, request_of}
use Rattle.request_files.specs.Session.{session}
use Rattle.serve_faults.specs.Input.{Parts, is_divided, parts_by, parts_of}
use Rattle.serve_faults.specs.Session.{IsSession, all_names_of, opened_of, opening_names_of, session_of_parts}
use Rattle.file_laws.proofs.Fed.{fed, fed_lines, parts_fed}

-- the same parts, with a line feed behind each line of the requests
abbrev pub with_feed : Parts → Parts
with_feed p = parts_by p.handlers p.tables (fed p.requests) p.first_table p.first

module _ (p : Parts) (file : File) where
  abbrev names : List Text
  names = opening_names_of p

  pub names_fed : all_names_of (with_feed p) ≡ all_names_of p
  names_fed = ap (λ (ls : List Text). names_behind names (rows p.first ls)) (fed_lines p.requests)

  abbrev of_lines : List Text → Session
  of_lines ls = session file (opened_of p file) (map (request_of names (names_behind names (rows p.first ls)) file) (rows p.first ls))

  pub session_fed : session_of_parts (with_feed p) file ≡ session_of_parts p file
  session_fed = ap of_lines (fed_lines p.requests)

  pub is_session_fed : IsSession p file → IsSession (with_feed p) file
  is_session_fed is = record {
    program = is.program;
    tables = is.tables;
    requests = ap (λ (ls : List Text). first_fault names file no_requests (rows p.first ls)) (fed_lines p.requests) ∙ is.requests;
  }

pub parts_are_fed : (input : Text) → is_divided input ≡ true → parts_of (fed input) ≡ with_feed (parts_of input)
parts_are_fed input marked = parts_fed input marked
