-- A word that is written is read as what was written.
use Rattle.std.proofs.Common.{◌≡◌, Bool, true, false, ℕ, List, [], ◌∷◌, ◌++◌, length, map, Option, Some, refl, ap, subst, ◌∙◌, slice_get}
use Rattle.std.specs.List.{AllByRecursion, list_any}
use Rattle.std.specs.Option.{option_map, unwrap_or}
use Rattle.std.specs.Str.{bytes_eq}
use Rattle.session_values.specs.Names.{Begins, place_of, with_text}
use Rattle.session_values.proofs.Named.{begins_then, front_kept}
use Rattle.session_values.proofs.NamesLemmas.{known_at, slice_get_last, stands_at, with_known, with_new}
use Rattle.text_lines.specs.Text.{Text}
use Rattle.text_lines.specs.Values.{is_symbol, placed, placed_all}
use Rattle.text_lines.proofs.ValueLemmas.{placed_all_begins, placed_all_step, placed_by, value_by, value_kept}
use Rattle.text_lines.proofs.ValuesBack.{nil_value, number_value}
use Rattle.table_lines.specs.Reading.{IsReadable, read_as}
use Rattle.table_lines.specs.Written.{Written, NilWord, NumberWord, SymbolWord, text_at, word, written}

-- the text at a place that has one
text_there : (names : List Text) (place : ℕ) (t : Text) → slice_get names place ≡ Some t → text_at names place ≡ t
text_there names place t h = ap (λ (o : Option Text). unwrap_or o []) h

-- a text that was placed is there
known_with : (t : Text) (names : List Text) (b : Bool) → list_any (bytes_eq t) names ≡ b → list_any (bytes_eq t) (with_text names t) ≡ true
known_with t names true e = ap (list_any (bytes_eq t)) (with_known names t e) ∙ e
known_with t names false e = ap (list_any (bytes_eq t)) (with_new names t e) ∙ known_at t (names ++ t ∷ []) (length names) (slice_get_last names t)

-- a symbol that was placed stands at its place
symbol_there : (names all : List Text) (t : Text) → is_symbol t ≡ true → Begins (placed names t) all → text_at all (place_of (placed names t) t) ≡ t
symbol_there names all t s b =
    let ns : List Text = placed names t in
    let is : ns ≡ with_text names t = placed_by names t true s in
    let known : list_any (bytes_eq t) ns ≡ true = ap (list_any (bytes_eq t)) is ∙ known_with t names _ refl in
    let there : slice_get all (place_of ns t) ≡ Some t = ap (λ (xs : List Text). slice_get xs (place_of ns t)) b.1 ∙ front_kept ns b.0 (place_of ns t) t (stands_at t ns known) in
    text_there all (place_of ns t) t there

symbol_back : (names all : List Text) (t : Text) → is_symbol t ≡ true → Begins (placed names t) all → read_as all t ≡ Some (SymbolWord t)
symbol_back names all t s b =
    ap (option_map (written all)) (value_kept names all t b ∙ value_by (placed names t) t true s)
    ∙ ap (λ (u : Text). Some (SymbolWord u)) (symbol_there names all t s b)

-- what was written is read, where its symbol was placed before
pub word_back : (names all : List Text) (w : Written) → IsReadable w → Begins (placed names (word w)) all → read_as all (word w) ≡ Some w
word_back names all NilWord h b = ap (option_map (written all)) (nil_value all)
word_back names all (NumberWord z) h b = ap (option_map (written all)) (number_value all z h)
word_back names all (SymbolWord t) h b = symbol_back names all t h b

pub values_back : (names all : List Text) (ws : List Written) → AllByRecursion IsReadable ws → Begins (placed_all names (map word ws)) all → map (read_as all) (map word ws) ≡ map Some ws
values_back names all [] h b = refl
values_back names all (w ∷ ws) h b =
    let rest : Begins (placed_all (placed names (word w)) (map word ws)) all = subst (λ ns. Begins ns all) (placed_all_step names (word w) (map word ws)) b in
    let here = word_back names all w h.0 (begins_then _ _ _ (placed_all_begins (placed names (word w)) (map word ws)) rest) in
    ap (λ (o : Option Written). o ∷ map (read_as all) (map word ws)) here ∙ ap (λ (os : List (Option Written)). Some w ∷ os) (values_back (placed names (word w)) all ws h.1 rest)
