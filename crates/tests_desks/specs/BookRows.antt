-- The session of the book's test, and what its book goes through. Only this crate's own functions
-- cite it.
use Rattle.std.specs.Prelude.{◌≡◌, ℕ, List, [], ◌∷◌, pos, Some, None}
use Rattle.session_values.specs.declared.kind.Kind.TheVariants.{Get, Put}
use Rattle.session_values.specs.declared.kind.TableKind.TheVariants.{Map}
use Rattle.session_values.specs.declared.op.Op.{Op}
use Rattle.session_values.specs.declared.reply.Reply.{Reply}
use Rattle.session_values.specs.declared.value.Value.TheVariants.{Nil, Num}
use Rattle.symbolic_ops.specs.declared.symbol.Symbol.{Symbol}
use Rattle.symbolic_ops.specs.Matching.{exact_symbol}
use Rattle.session_journal.specs.Lists.{ListView, Ticket, list_meaning, ticket_at}
use Rattle.session_journal.specs.Script.{Meaning}
use Rattle.admission_book.specs.Book.{Book, opened, after_begin, after_narrow, after_admit, after_delay, after_done, after_end}
use Rattle.admission_book.specs.Methods.{BookView}
use Rattle.admission_book.specs.Lawful.{Lawful}

abbrev pub put_of : ℕ → ℕ → Op
put_of k v = record { kind = Put; table = 0; key = Num (pos k); value = Num (pos v) }

abbrev pub get_of : ℕ → Op
get_of k = record { kind = Get; table = 0; key = Num (pos k); value = Nil }

abbrev pub nil_reply : Reply
nil_reply = record { count = 1; a = Nil; b = Nil; c = Nil; d = Nil }

-- one map, and no room for more tickets
abbrev pub on_one_map : List Ticket → ListView
on_one_map tickets = record {
  shape = Map ∷ [];
  tickets = tickets;
  tickets_left = 0;
  calls_left = 0;
  symbols_left = 0;
}

abbrev pub meaning_of : ListView → Meaning
meaning_of s = list_meaning s.shape s.tickets

-- what a ticket declares at its beginning
abbrev pub list_entry : ListView → ℕ → List Symbol
list_entry s t = (ticket_at s.tickets t).entry

-- two tickets that may get two keys, and one that puts the second key
abbrev pub gets_and_put : ListView
gets_and_put = on_one_map (
    record {
      ops = [];
      reply = nil_reply;
      entry = exact_symbol (get_of 1) ∷ exact_symbol (get_of 2) ∷ [];
    }
    ∷ record {
      ops = [];
      reply = nil_reply;
      entry = exact_symbol (get_of 1) ∷ exact_symbol (get_of 2) ∷ [];
    }
    ∷ record { ops = put_of 2 7 ∷ []; reply = nil_reply; entry = exact_symbol (put_of 2 7) ∷ [] }
    ∷ []
    )

-- a lawful book of this script
pub record IsAt (s : ListView) (b : Book) (v : BookView ListView) : Type 0 where
  pub script : v.script ≡ s
  pub book : v.book ≡ b
  pub lawful : Lawful (meaning_of v.script) v.book

-- all tickets have begun
abbrev pub all_begun : Book
all_begun =
    after_begin
    (after_begin
    (after_begin (opened 3 3) 0 (exact_symbol (get_of 1) ∷ exact_symbol (get_of 2) ∷ []))
    1 (exact_symbol (get_of 1) ∷ exact_symbol (get_of 2) ∷ []))
    2 (exact_symbol (put_of 2 7) ∷ [])

module _ (older : ℕ) (y : Symbol) where
  -- the put was delayed
  abbrev pub delayed : Book
  delayed = after_delay all_begun 2 (put_of 2 7) older y

  -- the others narrowed to nothing
  abbrev pub narrowed_one : Book
  narrowed_one = after_narrow delayed 0 (record {
    ticket = 0;
    foresight = exact_symbol (get_of 1) ∷ exact_symbol (get_of 2) ∷ [];
    flight = None;
  }) []

  abbrev pub narrowed : Book
  narrowed = after_narrow narrowed_one 1 (record {
    ticket = 1;
    foresight = exact_symbol (get_of 1) ∷ exact_symbol (get_of 2) ∷ [];
    flight = None;
  }) []

  -- the put was done
  abbrev pub in_flight : Book
  in_flight = after_admit narrowed 2 (record {
    ticket = 2;
    foresight = exact_symbol (put_of 2 7) ∷ [];
    flight = None;
  }) (put_of 2 7)

  abbrev pub has_put : Book
  has_put = after_done in_flight 2 (record {
    ticket = 2;
    foresight = exact_symbol (put_of 2 7) ∷ [];
    flight = Some (put_of 2 7);
  }) (put_of 2 7) Nil []

  -- the tickets end one after another
  abbrev pub one_ended : Book
  one_ended = after_end has_put 0 (record { ticket = 0; foresight = []; flight = None }) nil_reply

  abbrev pub two_ended : Book
  two_ended = after_end one_ended 1 (record { ticket = 1; foresight = []; flight = None }) nil_reply

  abbrev pub all_ended : Book
  all_ended = after_end two_ended 2 (record { ticket = 2; foresight = []; flight = None }) nil_reply
