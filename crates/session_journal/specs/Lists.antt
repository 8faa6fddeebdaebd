-- What a script means that is a list of tickets.
use Rattle.std.specs.Prelude.{ℕ, zero, suc, ◌+◌, ◌<◌, ◌≤◌, List, [], ◌∷◌, ◌++◌, length, cond, ◌&&◌, ◌==◌}
use Rattle.std.specs.List.{AllByRecursion}
use Rattle.session_values.specs.Limits.{max_symbols}
use Rattle.session_values.specs.declared.value.Value.TheVariants.{Nil}
use Rattle.session_values.specs.declared.kind.TableKind.{TableKind}
use Rattle.session_values.specs.declared.op.Op.{Op}
use Rattle.session_values.specs.declared.reply.Reply.{Reply}
use Rattle.session_values.specs.Dialogue.{Calls, Answers, Dialogue}
use Rattle.session_values.specs.Kinds.{is_adding}
use Rattle.session_values.specs.Tables.{Fits, start}
use Rattle.session_values.specs.Opening.{no_entries}
use Rattle.symbolic_ops.specs.declared.symbol.Symbol.{Symbol}
use Rattle.symbolic_ops.specs.Matching.{Matches, HasNoVar, exact_symbol}
use Rattle.session_journal.specs.Script.{Meaning, HasValues}

-- one ticket: its operations, its reply, and what it declares at its beginning
pub record Ticket : Type 0 where
  pub ops : List Op
  pub reply : Reply
  pub entry : List Symbol

-- a script that is a list of tickets, and the places that are left for tickets, operations and
-- symbols
pub record ListView : Type 0 where
  pub shape : List TableKind
  pub tickets : List Ticket
  pub tickets_left : ℕ
  pub calls_left : ℕ
  pub symbols_left : ℕ

-- what stands past the last ticket
abbrev pub no_ticket : Ticket
no_ticket = record {
  ops = [];
  reply = record { count = 1; a = Nil; b = Nil; c = Nil; d = Nil };
  entry = [];
}

abbrev pub ticket_at : List Ticket → ℕ → Ticket
ticket_at [] t = no_ticket
ticket_at (x ∷ xs) zero = x
ticket_at (x ∷ xs) (suc t) = ticket_at xs t

-- the operations in order, whatever the replies, and then the reply
abbrev pub says : List Op → Reply → Dialogue
says [] r replies = Answers r
says (op ∷ ops) r [] = Calls op
says (op ∷ ops) r (v ∷ replies) = says ops r replies

-- how many operations of a list may add a key to table i
abbrev pub adding : ℕ → List Op → ℕ
adding i [] = 0
adding i (op ∷ ops) = cond (is_adding op.kind && (op.table == i)) 1 0 + adding i ops

-- what a list of tickets keeps of each
pub record IsTicket (shape : List TableKind) (x : Ticket) : Type 0 where
  pub fits : AllByRecursion (λ op. Fits shape op) x.ops
  pub values : AllByRecursion (λ op. HasValues (Calls op)) x.ops
  pub answer : HasValues (Answers x.reply)
  pub few : length x.entry ≤ max_symbols
  pub known : AllByRecursion HasNoVar x.entry
  pub matched : AllByRecursion (λ op. Matches x.entry op) x.ops

-- what a list of tickets means: its tables open empty, and each ticket declares all that it calls,
-- from its beginning to its end, as a list of its own; at its sites, one a part, nothing is declared
abbrev pub list_meaning : List TableKind → List Ticket → Meaning
list_meaning shape tickets = record {
  shape = shape;
  opening = start shape;
  opened = no_entries shape;
  requests = length tickets;
  next = λ t. says (ticket_at tickets t).ops (ticket_at tickets t).reply;
  length = λ t. length (ticket_at tickets t).ops;
  adds = λ t i. adding i (ticket_at tickets t).ops;
  entry = λ t. (ticket_at tickets t).entry;
  told = λ t replies. (ticket_at tickets t).entry;
  due = λ t replies. (ticket_at tickets t).entry;
  points = λ part. 1;
  declared = λ part point. [];
}

-- ---- what is added
-- the last ticket
abbrev pub last_ticket : List Ticket → Ticket
last_ticket [] = no_ticket
last_ticket (x ∷ []) = x
last_ticket (x ∷ y ∷ xs) = last_ticket (y ∷ xs)

-- the tickets with another last one
abbrev pub with_last : List Ticket → Ticket → List Ticket
with_last [] z = []
with_last (x ∷ []) z = z ∷ []
with_last (x ∷ y ∷ xs) z = x ∷ with_last (y ∷ xs) z

-- a ticket that calls nothing
abbrev pub answers_only : Reply → Ticket
answers_only r = record { ops = []; reply = r; entry = [] }

-- a ticket that calls one operation more, and declares it
abbrev pub calls_more : Ticket → Op → Ticket
calls_more x op = record {
  ops = x.ops ++ op ∷ [];
  reply = x.reply;
  entry = x.entry ++ exact_symbol op ∷ [];
}

-- a ticket that declares one symbol more
abbrev pub allows_more : Ticket → Symbol → Ticket
allows_more x s = record { ops = x.ops; reply = x.reply; entry = x.entry ++ s ∷ [] }

-- there is a ticket, and its last one may declare one symbol more
pub record HasPlace (tickets : List Ticket) : Type 0 where
  pub some : 0 < length tickets
  pub few : length (last_ticket tickets).entry < max_symbols
