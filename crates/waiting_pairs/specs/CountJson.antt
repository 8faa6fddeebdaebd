-- The JSON that tells who waited for whom: an object with the chains and the rows. A value's text,
-- with the escapes of JSON, is the kit's `compact_text`.
use Rattle.std.specs.Prelude.{ℕ, List, [], ◌∷◌, ◌++◌, map, codes}
use Rattle.serde_json.specs.Data.{Data, number, unsigned, string, array, object, member, no_members}
use Rattle.serde_json.specs.View.{items_of}
use Rattle.serde_json.specs.Written.{compact_text}
use Rattle.serve_reading.specs.Language.{File}
use Rattle.waiting_pairs.specs.declared.counting.Row.{Row}
use Rattle.waiting_pairs.specs.CountLines.{handler_word, operation_words, trace_symbol_words}

-- an object with these members, in the order of their names
abbrev pub parts_value : (count : ℕ) → (waits operation holder symbol : List ℕ) → Data
parts_value count waits operation holder symbol = object (
    member (codes "count") (number (unsigned count)) (
    member (codes "for") (string holder) (
    member (codes "operation") (string operation) (
    member (codes "symbol") (string symbol) (
    member (codes "waits") (string waits) no_members)))))

-- a row: what the columns of its line tell
abbrev pub row_value : List (List ℕ) → File → Row → Data
row_value names f r =
    parts_value r.count (handler_word names f r.cause.waits)
    (operation_words names f r.cause.operation) (handler_word names f r.cause.holder)
    (trace_symbol_words names f r.cause.symbol)

-- the number of a ticket
abbrev pub ticket_value : ℕ → Data
ticket_value t = number (unsigned t)

-- a chain: the numbers of its tickets
abbrev pub chain_value : List ℕ → Data
chain_value chain = array (items_of (map ticket_value chain))

-- the chains and the rows
abbrev pub all_value : List Data → List Data → Data
all_value chains rows = object (
    member (codes "chains") (array (items_of chains)) (
    member (codes "delays") (array (items_of rows)) no_members))

-- the text of it, and a line feed
abbrev pub json : List (List ℕ) → File → List Row → List (List ℕ) → List ℕ
json names f rows chains =
    compact_text (all_value (map chain_value chains) (map (row_value names f) rows)) ++ 10 ∷ []
