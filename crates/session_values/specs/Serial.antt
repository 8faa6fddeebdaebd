-- The serial run: the tickets of a session served one at a time, in order, on plain tables.
use Rattle.std.specs.Prelude.{ℕ, zero, suc, List, [], ◌∷◌, ◌++◌, Option, Some, None}
use Rattle.session_values.specs.declared.kind.TableKind.{TableKind}
use Rattle.session_values.specs.declared.reply.Reply.{Reply}
use Rattle.session_values.specs.Tables.{Tables, reply, step}
use Rattle.session_values.specs.Dialogue.{Calls, Answers, Dialogue, rest, Entry}

-- what is to be served: the kinds of the tables, the opening tables, the number of tickets, and for
-- each ticket its dialogue and the most calls that it makes
pub record Session : Type 0 where
  pub shape : List TableKind
  pub opening : Tables
  pub requests : ℕ
  pub next : ℕ → Dialogue
  pub length : ℕ → ℕ

-- how one ticket was served: its entries, its reply, and the tables after it
pub record Served : Type 0 where
  pub entries : List Entry
  pub answer : Option Reply
  pub after : Tables

-- with one entry more at the front
abbrev pub served_first : Entry → Served → Served
served_first e s = record { entries = e ∷ s.entries; answer = s.answer; after = s.after }

-- serves one dialogue alone from these tables: asks what comes next, does it, and goes on with its
-- reply, for at most so many operations
abbrev pub serve : ℕ → Dialogue → Tables → Served
serve zero f ts = elim (f []) [
  | Calls op ↦ record { entries = []; answer = None; after = ts }
  | Answers r ↦ record { entries = []; answer = Some r; after = ts }
]
serve (suc n) f ts = elim (f []) [
  | Calls op ↦ served_first (record { op = op; reply = reply ts op })
      (serve n (rest f (reply ts op ∷ [])) (step ts op))
  | Answers r ↦ record { entries = []; answer = Some r; after = ts }
]

-- the tables when the tickets below t have been served one at a time, in order, from the opening
-- tables
abbrev pub tables_before : Session → ℕ → Tables
tables_before s zero = s.opening
tables_before s (suc t) = (serve (s.length t) (s.next t) (tables_before s t)).after

-- how ticket t is served when the tickets are served one at a time, in order
abbrev pub serial : Session → ℕ → Served
serial s t = serve (s.length t) (s.next t) (tables_before s t)

-- a reply, if there is one, as a list
abbrev pub answered : Option Reply → List Reply
answered None = []
answered (Some r) = r ∷ []

-- the replies of the first n tickets, in their order
abbrev pub serial_replies : Session → ℕ → List Reply
serial_replies s zero = []
serial_replies s (suc t) = serial_replies s t ++ answered (serial s t).answer
