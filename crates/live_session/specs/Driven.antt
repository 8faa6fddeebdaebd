-- What the calls of tickets at a session answer and leave.
use Rattle.std.specs.Prelude.{◌≡◌, ℕ, suc, Bool, true, false, List, Result, is_ok, map}
use Rattle.session_values.specs.declared.op.Op.{Op}
use Rattle.session_values.specs.ReplyText.{IsPrintable}
use Rattle.session_values.specs.Tables.{Fits, Tables, kind_of}
use Rattle.symbolic_ops.specs.declared.symbol.Symbol.{Symbol}
use Rattle.text_lines.specs.Text.{Text}
use Rattle.driven_tickets.specs.declared.answers.BeginError.{BeginError}
use Rattle.driven_tickets.specs.declared.answers.Called.{Called}
use Rattle.driven_tickets.specs.declared.answers.Called.TheVariants as called
use Rattle.driven_tickets.specs.declared.answers.NarrowError.{NarrowError}
use Rattle.driven_tickets.specs.declared.answers.NoTicket.{NoTicket}
use Rattle.driven_tickets.specs.Desk.{BegunAs, CalledBy, EndedAs, NarrowedAs}
use Rattle.live_session.specs.Live.{LiveView, desk_in}

-- an act of the program itself was done, and beside tables and tickets nothing changed; or nothing
-- was done, and nothing changed
abbrev pub Beside : Bool → LiveView → LiveView → Type 0
Beside true v w =
    w ≡ record v { tables = w.tables; tickets = w.tickets; driven = suc v.driven }
Beside false v w = w ≡ v

abbrev pub is_done : Called → Bool
is_done (called.Done v) = true
is_done (called.Delayed u) = false
is_done called.Undeclared = false
is_done called.Misfit = false
is_done called.NoTicket = false
is_done called.NoMemory = false

-- an operation of tables, whose symbols are among the names, with texts of at most 64 bytes
pub record IsOperationOf (names : List Text) (ts : Tables) (op : Op) : Type 0 where
  pub fits : Fits (map kind_of ts) op
  pub key : IsPrintable names op.key
  pub value : IsPrintable names op.value

-- an operation of the session's tables and names
abbrev pub FitsSession : LiveView → Op → Type 0
FitsSession v op = IsOperationOf v.names v.tables op

-- ---- the calls, as those of a desk over the session's tables
abbrev pub BeginAnswered : LiveView → LiveView → List Symbol → Result ℕ BeginError → Type 0
BeginAnswered v w f r = BegunAs (desk_in v) (desk_in w) f r × Beside (is_ok r) v w

abbrev pub CallAnswered : LiveView → LiveView → ℕ → Op → Called → Type 0
CallAnswered v w t op r =
    CalledBy (FitsSession v) (desk_in v) (desk_in w) t op r × Beside (is_done r) v w

abbrev pub NarrowAnswered : LiveView → LiveView → ℕ → List Symbol
    → Result (Unit {0}) NarrowError → Type 0
NarrowAnswered v w t g r = NarrowedAs (desk_in v) (desk_in w) t g r × Beside (is_ok r) v w

abbrev pub EndAnswered : LiveView → LiveView → ℕ → Result (Unit {0}) NoTicket → Type 0
EndAnswered v w t r = EndedAs (desk_in v) (desk_in w) t r × Beside (is_ok r) v w
