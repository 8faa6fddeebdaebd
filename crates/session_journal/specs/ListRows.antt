-- The rows of a list of tickets, whose operations and symbols lie one after another.
use Rattle.std.specs.Prelude.{◌≡◌, ℕ, ◌+◌, ◌≤◌, List, [], ◌∷◌, length, map, take, drop}
use Rattle.std.specs.List.{AllByRecursion}
use Rattle.session_values.specs.Limits.{max_requests, max_session_calls}
use Rattle.session_values.specs.declared.kind.TableKind.{TableKind}
use Rattle.session_values.specs.declared.op.Op.{Op}
use Rattle.symbolic_ops.specs.declared.symbol.Symbol.{Symbol}
use Rattle.session_journal.specs.declared.list_script.Row.{Row}
use Rattle.session_journal.specs.Lists.{Ticket, IsTicket}

-- the ticket of a row
abbrev pub ticket_of_row : List Op → List Symbol → Row → Ticket
ticket_of_row ops symbols r = record {
  ops = take r.ops (drop r.first_op ops);
  reply = r.reply;
  entry = take r.symbols (drop r.first_symbol symbols);
}

-- the tickets of the rows, in their order
abbrev pub tickets_of : List Op → List Symbol → List Row → List Ticket
tickets_of ops symbols rows = map (ticket_of_row ops symbols) rows

-- the rows follow one another, from these places on, and leave off at those
abbrev pub Follow : ℕ → ℕ → List Row → ℕ → ℕ → Type 0
Follow o s [] p q = (o ≡ p) × (s ≡ q)
Follow o s (r ∷ rows) p q = (r.first_op ≡ o) × ((r.first_symbol ≡ s)
    × Follow (o + r.ops) (s + r.symbols) rows p q)

-- what the lists keep, and how many places each may have
pub record KeepsRows (shape : List TableKind) (rows : List Row) (ops : List Op)
    (symbols : List Symbol) (row_room op_room symbol_room : ℕ) : Type 0 where
  pub follow : Follow 0 0 rows (length ops) (length symbols)
  pub tickets : AllByRecursion (IsTicket shape) (tickets_of ops symbols rows)
  pub rows_within : length rows ≤ row_room
  pub ops_within : length ops ≤ op_room
  pub symbols_within : length symbols ≤ symbol_room
  pub few_rows : row_room ≤ max_requests
  pub few_ops : op_room ≤ max_session_calls
  pub few_symbols : symbol_room ≤ 400000
