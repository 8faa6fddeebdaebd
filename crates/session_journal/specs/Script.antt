-- What a script of tickets means.
use Rattle.std.specs.Prelude.{◌≡◌, ℕ, ◌+◌, ◌<◌, ◌≤◌, List, [], ◌∷◌, length, map, cond, ◌&&◌, ◌==◌}
use Rattle.std.specs.List.{AllByRecursion}
use Rattle.session_values.specs.Limits.{max_requests, max_session_calls, max_symbols, max_variables}
use Rattle.session_values.specs.declared.value.Value.{Value}
use Rattle.session_values.specs.declared.kind.TableKind.{TableKind}
use Rattle.session_values.specs.declared.op.Op.{Op}
use Rattle.session_values.specs.Dialogue.{Next, Calls, Answers, Dialogue, Entry, rest, Follows, EndsBy}
use Rattle.session_values.specs.Serial.{Session}
use Rattle.session_values.specs.Kinds.{is_adding}
use Rattle.session_values.specs.Op.{IsHeld}
use Rattle.session_values.specs.Reply.{IsHeldReply}
use Rattle.session_values.specs.Sums.{sum_below}
use Rattle.session_values.specs.Tables.{Tables, Fits}
use Rattle.session_values.specs.Values.{IsValue}
use Rattle.session_values.specs.Opening.{Pair, IsOpening, tables_of}
use Rattle.symbolic_ops.specs.declared.symbol.Symbol.{Symbol}
use Rattle.symbolic_ops.specs.Instantiate.{IsWithin, symbol_in}
use Rattle.symbolic_ops.specs.Matching.{Matches, HasNoVar}
use Rattle.session_journal.specs.declared.site.Site.{Site}

-- whatever replies come that a program can hold, some symbol of the list stands for each operation
-- that the dialogue calls
pub record Covers (f : Dialogue) (foresight : List Symbol) : Type 0 where
  pub each : (more : List Value) (op : Op) → AllByRecursion IsValue more → f more ≡ Calls op
      → Matches foresight op

-- a list that a ticket may have as its foresight
pub record IsForesight (f : Dialogue) (foresight : List Symbol) : Type 0 where
  pub few : length foresight ≤ max_symbols
  pub known : AllByRecursion HasNoVar foresight
  pub covers : Covers f foresight

-- a program can hold what a dialogue gives: the operation, or the reply
abbrev pub HasValues : Next → Type 0
HasValues (Calls op) = IsHeld op
HasValues (Answers r) = IsHeldReply r

-- what a script means: the kinds of its tables, the opening tables, their entries by table in the
-- order in which they are told, the number of its tickets, and for each ticket its dialogue, the most
-- calls, the most adding calls on each table, and what it declares at its beginning, right after an
-- operation, and last before it calls or answers; beside these how many points each of its parts has
-- and what is declared at each, with variables
pub record Meaning : Type 0 where
  pub shape : List TableKind
  pub opening : Tables
  pub opened : List (List Pair)
  pub requests : ℕ
  pub next : ℕ → Dialogue
  pub length : ℕ → ℕ
  pub adds : ℕ → ℕ → ℕ
  pub entry : ℕ → List Symbol
  pub told : ℕ → List Value → List Symbol
  pub due : ℕ → List Value → List Symbol
  pub points : ℕ → ℕ
  pub declared : ℕ → ℕ → List Symbol

-- what is declared at a site where its variables have these values
abbrev pub declared_with : Meaning → Site → List Value → List Symbol
declared_with m s values = map (symbol_in values) (m.declared s.part s.point)

-- the script has this site, and so many values are enough for its variables and no more than a
-- handler has
pub record HasSite (m : Meaning) (s : Site) (values : ℕ) : Type 0 where
  pub there : s.point < m.points s.part
  pub few : values ≤ max_variables
  pub within : AllByRecursion (λ y. IsWithin values y) (m.declared s.part s.point)

-- what the serial run is made of
abbrev pub session_of : Meaning → Session
session_of m = record {
  shape = m.shape;
  opening = m.opening;
  requests = m.requests;
  next = m.next;
  length = m.length;
}

-- how many of a list's operations are of the adding kinds on table i
abbrev pub adds_on : ℕ → List Entry → ℕ
adds_on i [] = 0
adds_on i (e ∷ es) = cond (is_adding e.op.kind && (e.op.table == i)) 1 0 + adds_on i es

-- the most calls of all tickets together
abbrev pub calls : Meaning → ℕ
calls m = sum_below m.requests m.length

-- the room of a table: the most of its adding calls
abbrev pub room : Meaning → ℕ → ℕ
room m i = sum_below m.requests (λ t. m.adds t i)

-- what every script's meaning keeps
pub record IsScript (m : Meaning) : Type 0 where
  -- the opening tables are of its kinds, and hold the entries that are told
  pub opening : m.opening ≡ tables_of m.shape m.opened
  pub opened : IsOpening m.shape m.opened
  -- each operation fits the tables, and where the replies are values, so are the values that come
  pub fits : (t : ℕ) (replies : List Value) (op : Op) → m.next t replies ≡ Calls op
      → Fits m.shape op
  pub values : (t : ℕ) (replies : List Value) → AllByRecursion IsValue replies
      → HasValues (m.next t replies)
  -- the bounds on a ticket's calls
  pub ends : (t : ℕ) → EndsBy (m.length t) (m.next t)
  pub adds : (t i : ℕ) (es : List Entry) → Follows (m.next t) es → adds_on i es ≤ m.adds t i
  -- what is declared covers what is still to come, where the replies so far are values
  pub entry : (t : ℕ) → IsForesight (m.next t) (m.entry t)
  pub told : (t : ℕ) (replies : List Value) → AllByRecursion IsValue replies
      → IsForesight (rest (m.next t) replies) (m.told t replies)
  pub due : (t : ℕ) (replies : List Value) → AllByRecursion IsValue replies
      → IsForesight (rest (m.next t) replies) (m.due t replies)
  -- the bounds on all tickets together
  pub few_requests : m.requests ≤ max_requests
  pub few_calls : calls m ≤ max_session_calls
  pub few_adds : (i : ℕ) → room m i ≤ max_session_calls
