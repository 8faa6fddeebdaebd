-- The JSON of what was counted has no fraction, so its text is known.
use Rattle.std.proofs.Common.{◌≡◌, ℕ, List, [], ◌∷◌, ◌++◌, map, Bool, false, ◌||◌, refl, subst, ap, ◌∙◌}
use Rattle.serde_json.specs.Data.{Data}
use Rattle.serde_json.specs.View.{items_of}
use Rattle.serde_json.specs.Written.{compact_text, has_float, items_have_float}
use Rattle.serve_reading.specs.Language.{File}
use Rattle.waiting_pairs.specs.declared.counting.Row.{Row}
use Rattle.waiting_pairs.specs.CountJson.{all_value, chain_value, json, row_value, ticket_value}

tickets : (c : List ℕ) → items_have_float (items_of (map ticket_value c)) ≡ false
tickets [] = refl
tickets (t ∷ ts) = tickets ts

of_chains : (cs : List (List ℕ)) → items_have_float (items_of (map chain_value cs)) ≡ false
of_chains [] = refl
of_chains (c ∷ cs) = ap (λ (b : Bool). b || items_have_float (items_of (map chain_value cs))) (tickets c) ∙ of_chains cs

of_rows : (names : List (List ℕ)) (f : File) (rs : List Row) → items_have_float (items_of (map (row_value names f) rs)) ≡ false
of_rows names f [] = refl
of_rows names f (r ∷ rs) = of_rows names f rs

both : (chains rows : List Data) → items_have_float (items_of chains) ≡ false → items_have_float (items_of rows) ≡ false → has_float (all_value chains rows) ≡ false
both chains rows c r = ap (λ (b : Bool). b || (items_have_float (items_of rows) || false)) c ∙ ap (λ (b : Bool). b || false) r

-- the text of a value that is this object
pub text_of : (names : List (List ℕ)) (f : File) (rows : List Row) (chains : List (List ℕ)) (value : Data) (ds es : List Data) (out : List ℕ)
    → ds ≡ map chain_value chains → es ≡ map (row_value names f) rows → value ≡ all_value ds es
    → (has_float value ≡ false → out ≡ compact_text value ++ 10 ∷ []) → out ≡ json names f rows chains
text_of names f rows chains value ds es out d e is h =
    let whole : value ≡ all_value (map chain_value chains) (map (row_value names f) rows) =
    is ∙ ap (λ (z : List Data). all_value z es) d ∙ ap (all_value (map chain_value chains)) e in
    subst (λ (v : Data). (has_float v ≡ false → out ≡ compact_text v ++ 10 ∷ [])) whole h
    (both (map chain_value chains) (map (row_value names f) rows) (of_chains chains) (of_rows names f rows))
