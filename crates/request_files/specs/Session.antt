-- The session that the requests of a checked file make: each request is a ticket.
use Rattle.std.specs.Prelude.{ℕ, List, [], length, slice_index_or}
use Rattle.session_values.specs.Opening.{Pair, tables_of}
use Rattle.session_values.specs.Dialogue.{Dialogue}
use Rattle.session_values.specs.Serial.{Session}
use Rattle.syntax_trees.specs.declared.file.File.{File}
use Rattle.handler_check.specs.Bounds.{calls_bound}
use Rattle.handler_check.specs.Dialogue.{env_of, next}
use Rattle.handler_check.specs.Resolved.{code_at, shape_of}
use Rattle.request_files.specs.declared.request.Request.{Request}

-- the request with this ticket, and one without arguments behind the last
abbrev pub request_at : List Request → ℕ → Request
request_at requests t = slice_index_or requests t (record { handler = 0; args = [] })

-- what a request's handler does next, from the request's arguments
abbrev pub dialogue_of : File → Request → Dialogue
dialogue_of f r = next (code_at f r.handler) (env_of r.args)

-- what the serial run is made of: the kinds of the tables, the entries with which they open, and of
-- each request its dialogue and the bound on its calls
abbrev pub session : File → List (List Pair) → List Request → Session
session f opened requests = record {
  shape = shape_of f;
  opening = tables_of (shape_of f) opened;
  requests = length requests;
  next = λ t. dialogue_of f (request_at requests t);
  length = λ t. calls_bound (code_at f (request_at requests t).handler);
}
