-- Tickets that call one operation a number of times.
use Rattle.std.specs.Prelude.{◌≡◌, ℕ, ◌+◌, ◌*◌, ◌-◌, ◌<◌, ◌≤◌, List, [], ◌∷◌, ◌++◌, length, map, replicate, None, false}
use Rattle.std.specs.List.{AllByRecursion}
use Rattle.session_values.specs.Limits.{max_requests, max_symbols}
use Rattle.session_values.specs.declared.kind.TableKind.{TableKind}
use Rattle.session_values.specs.declared.op.Op.{Op}
use Rattle.session_values.specs.declared.reply.Reply.{Reply}
use Rattle.session_values.specs.declared.value.Value.{Value}
use Rattle.session_values.specs.declared.value.Value.TheVariants.{Nil}
use Rattle.session_values.specs.Dialogue.{Follows}
use Rattle.symbolic_ops.specs.declared.symbol.Symbol.{Symbol}
use Rattle.symbolic_ops.specs.Matching.{HasNoVar, Matches, exact_symbol}
use Rattle.session_journal.specs.Desks.{DeskView}
use Rattle.session_journal.specs.Lists.{ListView, Ticket, says}
use Rattle.session_journal.specs.Script.{Meaning}

abbrev pub no_value : Reply
no_value = record { count = 1; a = Nil; b = Nil; c = Nil; d = Nil }

-- a ticket that calls an operation n times
abbrev pub repeated : ℕ → Op → Ticket
repeated n op = record {
  ops = replicate n op;
  reply = no_value;
  entry = replicate n (exact_symbol op);
}

-- what contracts see of such a list: the script, the operation of each ticket, and how often it is
-- called
pub record RepeatedView : Type 0 where
  pub list : ListView
  pub ops : List Op
  pub times : ℕ

-- what such a list keeps
pub record Keeps (l : ListView) (ops : List Op) (times places : ℕ) : Type 0 where
  pub tickets : l.tickets ≡ map (repeated times) ops
  pub few : times ≤ max_symbols
  pub calls : l.calls_left ≡ l.tickets_left * times
  pub symbols : l.symbols_left ≡ l.tickets_left * times
  pub within : length ops + l.tickets_left ≤ places
  pub some : length ops + l.tickets_left ≤ max_requests

-- no tickets yet
pub record IsEmpty (shape : List TableKind) (tickets times : ℕ) (v : RepeatedView) : Type 0 where
  pub shape_is : v.list.shape ≡ shape
  pub none : v.list.tickets ≡ []
  pub left : v.list.tickets_left ≡ tickets
  pub ops_none : v.ops ≡ []
  pub times_are : v.times ≡ times

-- a list of tickets with one more, which calls the operation n times
abbrev pub list_more : ListView → ℕ → Op → ListView
list_more l n op = record {
  shape = l.shape;
  tickets = l.tickets ++ repeated n op ∷ [];
  tickets_left = l.tickets_left - 1;
  calls_left = l.calls_left - n;
  symbols_left = l.symbols_left - n;
}

-- with one ticket more
abbrev pub with_repeated : RepeatedView → Op → RepeatedView
with_repeated v op = record {
  list = list_more v.list v.times op;
  ops = v.ops ++ op ∷ [];
  times = v.times;
}

-- the ticket calls the operation n times and then answers nil, and declares this list all along
pub record IsPlan (m : Meaning) (t : ℕ) (op : Op) (n : ℕ) (list : List Symbol) : Type 0 where
  pub next : (rs : List Value) → m.next t rs ≡ says (replicate n op) no_value rs
  pub told : (rs : List Value) → m.told t rs ≡ list
  pub due : (rs : List Value) → m.due t rs ≡ list
  pub few : length list ≤ max_symbols
  pub known : AllByRecursion HasNoVar list
  pub matched : 0 < n → Matches list op

-- so many calls were made at the desk
pub record Called (n : ℕ) (op : Op) (list : List Symbol) (start now : DeskView)
    (done : ℕ) : Type 0 where
  pub follows : Follows (says (replicate n op) no_value) now.entries
  pub long : length now.entries ≡ done
  pub present : now.present ≡ list
  pub idle : now.waiting ≡ None
  pub going : now.ended ≡ false
  pub ticket_is : now.ticket ≡ start.ticket
  pub home_is : now.home ≡ start.home
  pub sure_is : now.sure ≡ start.sure
