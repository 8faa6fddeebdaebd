-- The JSON of a list of waits has no fraction, so its text is known.
use Rattle.std.proofs.Common.{◌≡◌, ℕ, ◌+◌, ◌<◌, List, [], ◌∷◌, ◌++◌, length, take, get_or, Bool, false, ◌||◌, ◌&&◌, Option, Some, None, map, refl, subst, sym, ap, ◌∙◌}
use Rattle.std.proofs.lemmas.List.{map_more, map_push}
use Rattle.session_values.specs.Kinds.{is_keyed}
use Rattle.serde_json.specs.Data.{Data, string, array}
use Rattle.serde_json.specs.View.{items_of, view}
use Rattle.serde_json.specs.Written.{compact_text, has_float, items_have_float}
use Rattle.serde_json.specs.declared.value.Value.{Value}
use Rattle.serve_reading.specs.Language.{File}
use Rattle.refusal_places.specs.Spots.{byte_spot}
use Rattle.waiting_pairs.specs.declared.waiting.Wait.{Wait}
use Rattle.waiting_pairs.specs.Json.{column_at, count_value, equal_keys, json, keys_value, line_of, parts_value, wait_value}
use Rattle.waiting_pairs.specs.Lines.{handler_word, symbol_words}

counted : (o : Option ℕ) → has_float (count_value o) ≡ false
counted None = refl
counted (Some n) = refl

strings : (texts : List (List ℕ)) → items_have_float (items_of (map string texts)) ≡ false
strings [] = refl
strings (t ∷ ts) = strings ts

parts : (waits operation : List ℕ) (line column : Option ℕ) (holder : List ℕ) (point : ℕ) (may_call : List ℕ) (keys : Data) → has_float keys ≡ false
    → has_float (parts_value waits operation line column holder point may_call keys) ≡ false
parts waits operation line column holder point may_call keys none =
    ap (λ (b : Bool). b || (has_float keys || (has_float (count_value line) || false))) (counted column)
    ∙ ap (λ (b : Bool). b || (has_float (count_value line) || false)) none
    ∙ ap (λ (b : Bool). b || false) (counted line)

one : (names : List (List ℕ)) (f : File) (text : List ℕ) (w : Wait) → has_float (wait_value names f text w) ≡ false
one names f text w =
    parts (handler_word names f w.asked.handler) (symbol_words names f w.asked.handler w.asked.op)
    (line_of (byte_spot text w.asked.at)) (column_at (byte_spot text w.asked.at)) (handler_word names f w.holder)
    w.point (symbol_words names f w.holder w.symbol) (keys_value names f w) (strings (equal_keys names f w (is_keyed w.asked.op.kind && is_keyed w.symbol.kind)))

no_fraction : (names : List (List ℕ)) (f : File) (text : List ℕ) (waits : List Wait) → items_have_float (items_of (map (wait_value names f text) waits)) ≡ false
no_fraction names f text [] = refl
no_fraction names f text (w ∷ ws) =
    ap (λ (b : Bool). b || items_have_float (items_of (map (wait_value names f text) ws))) (one names f text w) ∙ no_fraction names f text ws

-- the text of values that are these objects
pub text_of : (names : List (List ℕ)) (f : File) (text out : List ℕ) (waits : List Wait) (ds : List Data) → ds ≡ map (wait_value names f text) waits
    → (items_have_float (items_of ds) ≡ false → out ≡ compact_text (array (items_of ds)) ++ 10 ∷ []) → out ≡ json names f text waits
text_of names f text out waits ds e h =
    subst (λ l. (items_have_float (items_of l) ≡ false → out ≡ compact_text (array (items_of l)) ++ 10 ∷ [])) e h (no_fraction names f text waits)

-- the values of the first of some waits, one more
pub values_more : (g : Wait → Data) (ws : List Wait) (i : ℕ) (x : Wait) (old new : List Value) (v : Value) → i < length ws → x ≡ get_or ws i x → new ≡ old ++ v ∷ []
    → view v ≡ g x → map view old ≡ map g (take i ws) → map view new ≡ map g (take (i + 1) ws)
values_more g ws i x old new v lt is pushed of so_far =
    ap (λ (z : List Value). map view z) pushed ∙ map_push view old v
    ∙ ap (λ (z : List Data). z ++ view v ∷ []) so_far
    ∙ ap (λ (d : Data). map g (take i ws) ++ d ∷ []) (of ∙ ap g is)
    ∙ sym (map_more g ws i x lt)
