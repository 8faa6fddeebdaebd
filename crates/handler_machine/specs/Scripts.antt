-- What the requests of a program mean, as the script of a session.
use Rattle.std.specs.Prelude.{ℕ, ◌+◌, List, length, Option, Some, None, slice_get}
use Rattle.symbolic_ops.specs.declared.symbol.Symbol.{Symbol}
use Rattle.session_values.specs.Opening.{IsOpening, Pair, tables_of}
use Rattle.session_journal.specs.Script.{Meaning}
use Rattle.syntax_trees.specs.declared.file.File.{File}
use Rattle.syntax_trees.specs.declared.file.Handler.{Handler}
use Rattle.check_meaning.specs.Bounds.{adds_bound, calls_bound}
use Rattle.check_meaning.specs.Code.{points}
use Rattle.check_meaning.specs.Dialogue.{Place, due_place, entry, env_of, told_place}
use Rattle.handler_check.specs.Resolved.{code_at, handler_code, shape_of}
use Rattle.request_files.specs.declared.request.Request.{Request}
use Rattle.request_files.specs.Servable.{IsServable}
use Rattle.request_files.specs.Session.{dialogue_of, request_at}
use Rattle.declaration_insertion.specs.Promises.{list_at}
use Rattle.declaration_insertion.specs.Program.{IsProgram, ProgramView, declared_at}

-- a program, the entries with which its tables open, and its requests
pub record ScriptsView : Type 0 where
  pub program : ProgramView
  pub opening : List (List Pair)
  pub requests : List Request

-- what is declared at a place of a request's handler
abbrev pub declared_by : ProgramView → Request → Place → List Symbol
declared_by p r at = list_at (declared_at p r.handler) at

-- how many points a handler has, its entry among them; none where there is no handler
abbrev pub points_in : File → Option Handler → ℕ
points_in f None = 0
points_in f (Some h) = 1 + points (handler_code f h)

-- Each request is a ticket. What it declares is what stands at its entry, at the point that its
-- last reply led to, and at the last point that it passed. The parts are the program's handlers.
abbrev pub meaning : ScriptsView → Meaning
meaning s = record {
  shape = shape_of s.program.file;
  opening = tables_of (shape_of s.program.file) s.opening;
  opened = s.opening;
  requests = length s.requests;
  next = λ t. dialogue_of s.program.file (request_at s.requests t);
  length = λ t. calls_bound (code_at s.program.file (request_at s.requests t).handler);
  adds = λ t table. adds_bound table (code_at s.program.file (request_at s.requests t).handler);
  entry = λ t. declared_by s.program (request_at s.requests t)
      (entry (env_of (request_at s.requests t).args));
  told = λ t replies. declared_by s.program (request_at s.requests t)
      (told_place (code_at s.program.file (request_at s.requests t).handler)
      (env_of (request_at s.requests t).args) replies);
  due = λ t replies. declared_by s.program (request_at s.requests t)
      (due_place (code_at s.program.file (request_at s.requests t).handler)
      (env_of (request_at s.requests t).args) replies);
  points = λ h. points_in s.program.file (slice_get s.program.file.handlers h);
  declared = declared_at s.program;
}

-- the program is one, its tables may open with the entries, and it can serve the requests
pub record KeepsScripts (s : ScriptsView) : Type 0 where
  pub program : IsProgram s.program
  pub opening : IsOpening (shape_of s.program.file) s.opening
  pub servable : IsServable s.program.file s.requests

-- what the same program's same requests mean where the tables open with these entries
abbrev pub meaning_over : ScriptsView → List (List Pair) → Meaning
meaning_over s opening =
    meaning (record { program = s.program; opening = opening; requests = s.requests })
