-- What is made of the parts of a session file before it is served.
use Rattle.std.specs.Prelude.{◌≡◌, ℕ, ◌≤◌, true, IsUtf8, List, [], length, map, None}
use Rattle.session_values.specs.Limits.{max_input}
use Rattle.session_values.specs.Opening.{Pair, IsOpening}
use Rattle.session_values.specs.Names.{Begins}
use Rattle.handler_syntax.specs.Language.{IsNamedFile}
use Rattle.syntax_trees.specs.declared.file.File.{File}
use Rattle.handler_check.specs.Resolved.{shape_of}
use Rattle.request_files.specs.declared.request.Request.{Request}
use Rattle.request_files.specs.Requests.{ArePrintable, first_fault, no_requests, request_of}
use Rattle.request_files.specs.Servable.{IsServable}
use Rattle.table_lines.specs.TableRows.{ArePrintable as ArePrintableEntries, first_table_fault}
use Rattle.table_lines.specs.Opened.{opened_by}
use Rattle.request_files.specs.Rows.{Row, names_behind}
use Rattle.serve_faults.specs.Input.{Parts, is_divided}
use Rattle.syntax_trees.specs.Mentions.{AreBelow, file_mentions}
use Rattle.serve_faults.specs.Session.{all_names_of, handler_names_of, opened_of, requests_of, request_fault, table_fault}
use Rattle.serve_reading.specs.declared.session.Loaded.{Loaded}
use Rattle.serve_reading.specs.Programs.{IsProgramOf}

-- a session file
pub record IsSessionInput (input : List ℕ) : Type 0 where
  pub short : length input ≤ max_input
  pub utf8 : IsUtf8 input
  pub divided : is_divided input ≡ true

-- what is loaded is the parts' session, and it can be served and printed
pub record IsLoaded (parts : Parts) (l : Loaded) : Type 0 where
  pub program_of : IsProgramOf parts.handlers l.program
  pub tables_fine : table_fault parts l.program.file ≡ None
  pub fine : request_fault parts l.program.file ≡ None
  pub names_are : l.names ≡ all_names_of parts
  pub opening_is : l.opening ≡ opened_of parts l.program.file
  pub opens : IsOpening (shape_of l.program.file) l.opening
  pub requests_are : l.requests ≡ requests_of parts l.program.file
  pub servable : IsServable l.program.file l.requests
  pub named : IsNamedFile l.names l.program.file
  pub printable_opening : ArePrintableEntries l.names l.opening
  pub printable : ArePrintable l.names l.requests

-- so many of its names, the first ones, are those of the handlers' part, and its file mentions no
-- others
pub record AreHandlersFirst (parts : Parts) (l : Loaded) : Type 0 where
  pub handlers_are : l.handler_names ≡ length (handler_names_of parts)
  pub handlers_first : l.handler_names ≤ length l.names
  pub handlers_below : AreBelow l.handler_names (file_mentions l.program.file)

-- table rows and requests without a fault, over the names of a file: these are their entries and
-- requests, with the names behind both
pub record AreOpened (old new : List (List ℕ)) (f : File) (ts rs : List Row)
    (opening : List (List Pair)) (requests : List Request) : Type 0 where
  pub tables_fine : first_table_fault old f.tables [] ts ≡ None
  pub fine : first_fault (names_behind old ts) f no_requests rs ≡ None
  pub names_are : new ≡ names_behind (names_behind old ts) rs
  pub opening_is : opening ≡ opened_by old (names_behind old ts) f.tables ts
  pub opens : IsOpening (shape_of f) opening
  pub requests_are : requests ≡ map (request_of (names_behind old ts) new f) rs
  pub servable : IsServable f requests
  pub kept : Begins old new
  pub printable_opening : ArePrintableEntries new opening
  pub printable : ArePrintable new requests
