-- A session file that opens with what was dumped of another.
use Rattle.std.specs.Prelude.{◌≡◌, ℕ, ◌+◌, ◌≤◌, true, List, ◌∷◌, ◌++◌, [], codes, length, map, None}
use Rattle.session_values.specs.Limits.{max_input}
use Rattle.session_values.specs.OpeningLimits.{max_table_lines}
use Rattle.session_journal.specs.Opening.{tables_of}
use Rattle.session_values.specs.Serial.{tables_before}
use Rattle.text_lines.specs.Text.{lines}
use Rattle.table_lines.specs.TableText.{WrittenTable, written_table}
use Rattle.handler_check.specs.Resolved.{shape_of}
use Rattle.handler_syntax.specs.Language.{File}
use Rattle.serve_faults.specs.Input.{is_divided, parts_of}
use Rattle.serve_faults.specs.Session.{IsSession, all_names_of, opened_of, opening_names_of, session_of_parts, table_fault}

-- the handlers of a session file, this text in place of its table part, a dividing line, and these
-- requests
abbrev pub reopened : List ℕ → List ℕ → List ℕ → List ℕ
reopened input text requests = (parts_of input).handlers
    ++ (text ++ (codes "%%" ++ 10 ∷ requests))

-- a text has no more lines behind its first than a table part may have
abbrev pub HasFewLines : List ℕ → Type 0
HasFewLines text = length (lines text) ≤ 1 + max_table_lines

-- and the file without requests has no more bytes than a session file may have
pub record MeetsLimits (input text : List ℕ) : Type 0 where
  pub short : length (reopened input text []) ≤ max_input
  pub few : HasFewLines text

-- ---- tables, where symbols are texts

-- the tables with which a session file with these handlers opens
abbrev pub first_tables : List ℕ → File → List WrittenTable
first_tables input file = map (written_table (opening_names_of (parts_of input)))
    (tables_of (shape_of file) (opened_of (parts_of input) file))

-- those behind its serial run
abbrev pub final_tables : List ℕ → File → List WrittenTable
final_tables input file = map (written_table (all_names_of (parts_of input)))
    (tables_before (session_of_parts (parts_of input) file)
    (session_of_parts (parts_of input) file).requests)

-- the other file has the same handlers and these requests, and a table part without a fault, with
-- which it opens as the first one ends
pub record OpensAsEnded (input other requests : List ℕ) (file : File) : Type 0 where
  pub divided : is_divided other ≡ true
  pub handlers : (parts_of other).handlers ≡ (parts_of input).handlers
  pub requests_are : (parts_of other).requests ≡ requests
  pub fine : table_fault (parts_of other) file ≡ None
  pub same : first_tables other file ≡ final_tables input file

-- the other file is a session of the same handlers too, and ends as the first one
pub record EndsAlike (input other : List ℕ) (file : File) : Type 0 where
  pub is_session : IsSession (parts_of other) file
  pub same : final_tables other file ≡ final_tables input file
