-- The JSON of a refusal has no fraction, so its text is known; and it has a place where its text has.
use Rattle.std.proofs.Common.{rules, ◌≡◌, ℕ, zero, suc, ◌+◌, ◌<◌, ◌≤◌, String, string_bytes, Global, Bool, false, ◌||◌, List, [], ◌∷◌, ◌++◌, get_or, take, map, Option, Some, None, length, refl, sym, ap, ◌∙◌, subst, arith}
use Rattle.std.proofs.lemmas.List.{take_all}
use Rattle.std.proofs.lemmas.List.{map_push}
use Rattle.std.specs.Prelude.{Vec}
use Rattle.serde_json.specs.Data.{Data, string}
use Rattle.serde_json.specs.View.{items_of, view}
use Rattle.serde_json.specs.Written.{has_float, items_have_float}
use Rattle.serde_json.specs.declared.value.Value.{Value, the_lemmas}
use Rattle.serde_json.specs.declared.value.Value.TheVariants as value
use Rattle.refusal_places.specs.declared.refusal.Place.{Place}
use Rattle.refusal_places.specs.declared.refusal.Place.TheVariants.{Nowhere, Byte, Counted, Line}
use Rattle.refusal_places.specs.Answers.{answer, answer_by, said_of}
use Rattle.refusal_places.specs.PlaceText.{caret_text, counted, line_text, text_at}
use Rattle.refusal_places.specs.Refusals.{Said}
use Rattle.refusal_places.specs.Spots.{Spot, byte_spot, line_spot}
use Rattle.refusal_advice.specs.Json.{IsJsonBy, IsJsonIn, IsJsonOf, IsJsonTo, count_value, json_text, line_value, numbers_of, refusal_value, spot_numbers}
use Rattle.refusal_advice.specs.Told.{IsAdviceFor}
use Rattle.refusal_advice.specs.declared.json.Numbers.{Numbers}

-- ---- no fraction

of_count : (o : Option ℕ) → has_float (count_value o) ≡ false
of_count None = refl
of_count (Some n) = refl

of_lines : (ls : List (List ℕ)) → items_have_float (items_of (map line_value ls)) ≡ false
of_lines [] = refl
of_lines (l ∷ ls) = of_lines ls

of_value : (name : List ℕ) (r : Said) (place : Numbers) (advice : List (List ℕ)) → has_float (refusal_value name r place advice) ≡ false
of_value name r place advice =
    ap (λ (b : Bool). b || (has_float (count_value place.column) || (has_float (count_value place.line) || false))) (of_lines advice)
    ∙ ap (λ (b : Bool). b || (has_float (count_value place.line) || false)) (of_count place.column)
    ∙ ap (λ (b : Bool). b || false) (of_count place.line)

-- the text of the value of a refusal that has this place
pub json_of : (name file : List ℕ) (r : Said) (place : Numbers) (advice : List (List ℕ)) (text : List ℕ) (d : Data) → numbers_of file r.place ≡ Some place → IsAdviceFor file r advice → d ≡ refusal_value name r place advice → (has_float d ≡ false → text ≡ json_text d) → IsJsonOf name file r text
json_of name file r place advice text d placed advised is written = record {
  place = place;
  advice = advice;
  placed = placed;
  advised = advised;
  text_is = written (ap has_float is ∙ of_value name r place advice) ∙ ap json_text is;
}

-- ---- texts

pub view_string : (t : String Global) → view (value.String t) ≡ string (string_bytes t)
view_string t = search (rules, the_lemmas)

-- ---- one line more

pub values_more : (old new : List Value) (v : Value) (ls : List (String Global)) (i : ℕ) (d : String Global) → i < length ls → new ≡ old ++ v ∷ [] → view v ≡ line_value (string_bytes (get_or ls i d))
    → map view old ≡ map line_value (map string_bytes (take i ls)) → map view new ≡ map line_value (map string_bytes (take (i + 1) ls))
values_more old new v ls i d h pushed is so_far =
    ap (λ (z : List Value). map view z) pushed ∙ map_push view old v
    ∙ ap (λ (x : Data). map view old ++ x ∷ []) is
    ∙ ap (λ (z : List Data). z ++ line_value (string_bytes (get_or ls i d)) ∷ []) so_far
    ∙ sym (taken ls i h)
  where
    taken : (ls : List (String Global)) (i : ℕ) → i < length ls → map line_value (map string_bytes (take (i + 1) ls)) ≡ map line_value (map string_bytes (take i ls)) ++ line_value (string_bytes (get_or ls i d)) ∷ []
    taken [] i h = absurd (omega (arith, h))
    taken (l ∷ ls) zero h = refl
    taken (l ∷ ls) (suc i) h =
        let e : suc i + 1 ≡ suc (i + 1) = omega arith in
        ap (λ n. map line_value (map string_bytes (take n (l ∷ ls)))) e
        ∙ ap (λ z. line_value (string_bytes l) ∷ z) (taken ls i (omega (arith, h)))

pub values_all : (ls : List (String Global)) (i : ℕ) → length ls ≤ i → map line_value (map string_bytes (take i ls)) ≡ map line_value (map string_bytes ls)
values_all ls i h = ap (λ (z : List (String Global)). map line_value (map string_bytes z)) (take_all i ls h)

-- ---- the place

caret_none : (name sentence : List ℕ) (o : Option Spot) → spot_numbers o ≡ None → caret_text name sentence o ≡ None
caret_none name sentence None e = refl
caret_none name sentence (Some s) e = absurd (cc e)

line_none : (name sentence : List ℕ) (o : Option Spot) → spot_numbers o ≡ None → line_text name sentence o ≡ None
line_none name sentence None e = refl
line_none name sentence (Some s) e = absurd (cc e)

text_none : (name file sentence : List ℕ) (p : Place) → numbers_of file p ≡ None → text_at name file sentence p ≡ None
text_none name file sentence Nowhere e = absurd (cc e)
text_none name file sentence (Byte at) e = caret_none name (counted sentence None) (byte_spot file at) e
text_none name file sentence (Counted at count) e = caret_none name (counted sentence (Some count)) (byte_spot file at) e
text_none name file sentence (Line line) e = line_none name sentence (line_spot file line) e

abbrev Has : Option (List ℕ) → Type 0
Has o = (t : List ℕ) × (o ≡ Some t)

caret_some : (name sentence : List ℕ) (n : Numbers) (o : Option Spot) → spot_numbers o ≡ Some n → Has (caret_text name sentence o)
caret_some name sentence n None e = absurd (cc e)
caret_some name sentence n (Some s) e = (_, refl)

line_some : (name sentence : List ℕ) (n : Numbers) (o : Option Spot) → spot_numbers o ≡ Some n → Has (line_text name sentence o)
line_some name sentence n None e = absurd (cc e)
line_some name sentence n (Some s) e = (_, refl)

text_some : (name file sentence : List ℕ) (n : Numbers) (p : Place) → numbers_of file p ≡ Some n → Has (text_at name file sentence p)
text_some name file sentence n Nowhere e = (_, refl)
text_some name file sentence n (Byte at) e = caret_some name (counted sentence None) n (byte_spot file at) e
text_some name file sentence n (Counted at count) e = caret_some name (counted sentence (Some count)) n (byte_spot file at) e
text_some name file sentence n (Line line) e = line_some name sentence n (line_spot file line) e

-- an input that is no refusal
pub none_told : (name file input : List ℕ) → said_of input ≡ None → answer name file input ≡ None
none_told name file input e = ap (answer_by name file) e

-- one that is this
pub told_by : {Z : Type 0} (name file input : List ℕ) (r : Said) (o : Option (Vec ℕ Z)) → said_of input ≡ Some r → IsJsonIn name file r o → IsJsonTo name file input o
told_by name file input r None is e = ap (answer_by name file) is ∙ text_none name file r.row.sentence r.place e
told_by name file input r (Some text) is j =
    let t = text_some name file r.row.sentence j.place r.place j.placed in
    record {
      place = t.0;
      placed = ap (answer_by name file) is ∙ t.1;
      told = subst (λ s. IsJsonBy name file s text.items) (sym is) j;
    }
