-- The JSON that tells who waits for whom: an array of objects, one for each wait, in the same
-- order. A value's text, with the escapes of JSON, is the kit's `compact_text`.
use Rattle.std.specs.Prelude.{ℕ, Bool, true, false, List, [], ◌∷◌, ◌++◌, map, codes, Option, Some}
use Rattle.std.specs.Prelude.{None, option_map, ◌&&◌}
use Rattle.session_values.specs.Kinds.{is_keyed}
use Rattle.serde_json.specs.Data.{Data, null, number, unsigned, string, array, object, member}
use Rattle.serde_json.specs.Data.{no_members}
use Rattle.serde_json.specs.View.{items_of}
use Rattle.serde_json.specs.Written.{compact_text}
use Rattle.serve_reading.specs.Language.{File}
use Rattle.serve_reading.specs.Resolved.{variables_at}
use Rattle.refusal_places.specs.Spots.{Spot, byte_spot, column_of}
use Rattle.waiting_pairs.specs.declared.waiting.Wait.{Wait}
use Rattle.waiting_pairs.specs.Lines.{arg_word, handler_word, symbol_words}

-- a count; null where there is none
abbrev pub count_value : Option ℕ → Data
count_value None = null
count_value (Some n) = number (unsigned n)

-- the number of a place's line, and its column in it
abbrev pub line_of : Option Spot → Option ℕ
line_of = option_map (λ (s : Spot). s.line)

abbrev pub column_at : Option Spot → Option ℕ
column_at = option_map (λ (s : Spot). column_of s.front)

-- the arguments that are equal where it waits, the waiting one's first; none where any delays
abbrev pub equal_keys : List (List ℕ) → File → Wait → Bool → List (List ℕ)
equal_keys names f w true =
    arg_word names (variables_at f w.asked.handler) w.asked.op.key
    ∷ arg_word names (variables_at f w.holder) w.symbol.key ∷ []
equal_keys names f w false = []

abbrev pub keys_value : List (List ℕ) → File → Wait → Data
keys_value names f w =
    array (items_of (map string
    (equal_keys names f w (is_keyed w.asked.op.kind && is_keyed w.symbol.kind))))

-- an object with these members, in the order of their names
abbrev pub parts_value : (waits operation : List ℕ) → (line column : Option ℕ)
    → (holder : List ℕ) → (point : ℕ) → (may_call : List ℕ) → (keys : Data) → Data
parts_value waits operation line column holder point may_call keys = object (
    member (codes "column") (count_value column) (
    member (codes "for") (string holder) (
    member (codes "keys") keys (
    member (codes "line") (count_value line) (
    member (codes "may_call") (string may_call) (
    member (codes "operation") (string operation) (
    member (codes "point") (number (unsigned point)) (
    member (codes "waits") (string waits) no_members))))))))

-- a wait: what the columns of its line tell, with line and column of their own
abbrev pub wait_value : List (List ℕ) → File → List ℕ → Wait → Data
wait_value names f text w =
    parts_value (handler_word names f w.asked.handler)
    (symbol_words names f w.asked.handler w.asked.op)
    (line_of (byte_spot text w.asked.at)) (column_at (byte_spot text w.asked.at))
    (handler_word names f w.holder) w.point (symbol_words names f w.holder w.symbol)
    (keys_value names f w)

-- all waits
abbrev pub list_value : List (List ℕ) → File → List ℕ → List Wait → Data
list_value names f text waits = array (items_of (map (wait_value names f text) waits))

-- the text of the list, and a line feed
abbrev pub json : List (List ℕ) → File → List ℕ → List Wait → List ℕ
json names f text waits = compact_text (list_value names f text waits) ++ 10 ∷ []
