-- Values, while the list of names grows.
use Rattle.std.proofs.Common.{◌≡◌, ℕ, ◌+◌, ◌≤◌, Bool, true, false, not, ◌||◌, ◌&&◌, ◌==◌, nat_le, slice_index, codes, cond, List, [], ◌∷◌, ◌++◌, length, Some, None, refl, sym, ap, ◌∙◌, subst, arith, append_assoc, length-append}
use Rattle.std.proofs.lemmas.Bool.{false≢true}
use Rattle.std.proofs.lemmas.List.{append-nil}
use Rattle.std.specs.Option.{is_some, unwrap_or}
use Rattle.std.specs.List.{list_any, list_all}
use Rattle.std.specs.Char.{is_ascii_alphabetic}
use Rattle.std.specs.Str.{bytes_eq}
use Rattle.std.proofs.lemmas.Bool.Decides.{nat_tests}
use Rattle.text_lines.specs.Bytes.{is_symbol_byte}
use Rattle.session_values.specs.Names.{with_text, place_of, Begins}
use Rattle.session_values.specs.declared.value.Value.{Value}
use Rattle.session_values.specs.declared.value.Value.TheVariants.{Nil, Sym}
use Rattle.session_values.proofs.NamesLemmas.{known_at, slice_get_last, with_known, with_new}
use Rattle.session_values.proofs.Named.{begins_same, begins_then, begins_with}
use Rattle.text_lines.specs.Text.{Text}
use Rattle.text_lines.specs.Values.{is_nil, is_symbol, number, as_value, value_of, is_value, values_of, placed, placed_all}

-- whether a text is in the list
abbrev pub known : Text → List Text → Bool
known t names = list_any (bytes_eq t) names

-- ---- the list grows

pub placed_by : (names : List Text) (w : Text) (b : Bool) → is_symbol w ≡ b → placed names w ≡ cond b (with_text names w) names
unfolding placed
placed_by names w b e = ap (λ b. cond b (with_text names w) names) e

pub placed_begins : (names : List Text) (w : Text) → Begins names (placed names w)
placed_begins names w = go _ refl where
  go : (b : Bool) → is_symbol w ≡ b → Begins names (placed names w)
  go true e = subst (Begins names) (sym (placed_by names w true e)) (begins_with names w)
  go false e = subst (Begins names) (sym (placed_by names w false e)) (begins_same names)

pub placed_all_nil : (names : List Text) → placed_all names [] ≡ names
unfolding placed_all
placed_all_nil names = refl

pub placed_all_step : (names : List Text) (w : Text) (ws : List Text) → placed_all names (w ∷ ws) ≡ placed_all (placed names w) ws
unfolding placed_all
placed_all_step names w ws = refl

pub placed_all_begins : (names ws : List Text) → Begins names (placed_all names ws)
unfolding placed_all
placed_all_begins names [] = begins_same names
placed_all_begins names (w ∷ ws) = begins_then _ _ _ (placed_begins names w) (placed_all_begins (placed names w) ws)

with_length : (names : List Text) (t : Text) (b : Bool) → length (cond b names (names ++ t ∷ [])) ≤ length names + 1
with_length names t true = omega arith
with_length names t false = omega (arith, length-append names (t ∷ []))

-- a word brings at most one name
pub placed_length : (names : List Text) (w : Text) → length (placed names w) ≤ length names + 1
placed_length names w = go _ refl where
  go : (b : Bool) → is_symbol w ≡ b → length (placed names w) ≤ length names + 1
  go true e = subst (λ x. length x ≤ length names + 1) (sym (placed_by names w true e)) (with_length names w (known w names))
  go false e = subst (λ x. length x ≤ length names + 1) (sym (placed_by names w false e)) (omega arith)

-- ---- the place of a known text stays

pub place_kept : (t : Text) (names more : List Text) → known t names ≡ true → place_of (names ++ more) t ≡ place_of names t
place_kept t [] more h = absurd (false≢true h)
place_kept t (x ∷ xs) more h = go (bytes_eq t x) refl (place_kept t xs more) where
  go : (b : Bool) → bytes_eq t x ≡ b → (known t xs ≡ true → place_of (xs ++ more) t ≡ place_of xs t) → place_of (x ∷ xs ++ more) t ≡ place_of (x ∷ xs) t
  go true e ih = ap (λ b. cond (not b) (1 + place_of (xs ++ more) t) 0) e ∙ sym (ap (λ b. cond (not b) (1 + place_of xs t) 0) e)
  go false e ih = ap (λ n. cond (not (bytes_eq t x)) (1 + n) 0) (ih (sym (ap (λ b. (b || known t xs)) e) ∙ h))

known_with : (t : Text) (names : List Text) (b : Bool) → known t names ≡ b → known t (with_text names t) ≡ true
known_with t names true e = ap (known t) (with_known names t e) ∙ e
known_with t names false e = ap (known t) (with_new names t e) ∙ known_at t (names ++ t ∷ []) (length names) (slice_get_last names t)

-- ---- the value of a word that was placed stays

pub value_by : (names : List Text) (w : Text) (b : Bool) → is_symbol w ≡ b → value_of names w ≡ cond b (Some (Sym (place_of names w))) (cond (is_nil w) (Some Nil) (as_value (number w)))
unfolding value_of
value_by names w b e = ap (λ b. cond b (Some (Sym (place_of names w))) (cond (is_nil w) (Some Nil) (as_value (number w)))) e

value_kept_by : (names now : List Text) (w : Text) (b : Bool) → is_symbol w ≡ b → Begins (placed names w) now → value_of now w ≡ value_of (placed names w) w
value_kept_by names now w true e p =
    let known_now : known w (placed names w) ≡ true = ap (known w) (placed_by names w true e) ∙ known_with w names _ refl in
    let place : place_of now w ≡ place_of (placed names w) w = ap (λ x. place_of x w) p.1 ∙ place_kept w (placed names w) p.0 known_now in
    value_by now w true e ∙ ap (λ n. Some (Sym n)) place ∙ sym (value_by (placed names w) w true e)
value_kept_by names now w false e p = value_by now w false e ∙ sym (value_by (placed names w) w false e)

pub value_kept : (names now : List Text) (w : Text) → Begins (placed names w) now → value_of now w ≡ value_of (placed names w) w
value_kept names now w = value_kept_by names now w _ refl

pub values_kept : (names ws now : List Text) → Begins (placed_all names ws) now → values_of now ws ≡ values_of (placed_all names ws) ws
unfolding placed_all
values_kept names [] now p = refl
values_kept names (w ∷ ws) now p =
    let a : Begins (placed names w) (placed_all (placed names w) ws) = placed_all_begins (placed names w) ws in
    let e : value_of now w ≡ value_of (placed_all (placed names w) ws) w = value_kept names now w (begins_then _ _ _ a p) ∙ sym (value_kept names (placed_all (placed names w) ws) w a) in
    ap (λ o. unwrap_or o Nil ∷ values_of now ws) e ∙ ap (λ vs. unwrap_or (value_of (placed_all (placed names w) ws) w) Nil ∷ vs) (values_kept (placed names w) ws now p)

-- whether a word is a value doesn't depend on the names
pub is_value_is : (names : List Text) (w : Text) → is_value w ≡ is_some (value_of names w)
unfolding is_value
is_value_is names w = go _ refl where
  go : (b : Bool) → is_symbol w ≡ b → is_some (value_of [] w) ≡ is_some (value_of names w)
  go true e = ap is_some (value_by [] w true e) ∙ sym (ap is_some (value_by names w true e))
  go false e = ap is_some (value_by [] w false e) ∙ sym (ap is_some (value_by names w false e))

-- ---- the words of one request, from the first to the last

-- some words are read, and these are left
pub record Left (names0 ws0 names ws : List Text) (found : List Value) : Type 0 where
  pub behind : placed_all names ws ≡ placed_all names0 ws0
  pub values : found ++ values_of (placed_all names0 ws0) ws ≡ values_of (placed_all names0 ws0) ws0
  pub tests : list_all is_value ws ≡ list_all is_value ws0
  pub kept : Begins names0 names
  pub room : length names + length ws ≤ length names0 + length ws0

pub left_start : (names0 ws0 : List Text) → Left names0 ws0 names0 ws0 []
left_start names0 ws0 = record { behind = refl; values = refl; tests = refl; kept = begins_same names0; room = omega arith }

pub left_turn : (names0 ws0 names : List Text) (w : Text) (ws : List Text) (found : List Value) (v : Value)
    → Left names0 ws0 names (w ∷ ws) found → value_of (placed names w) w ≡ Some v → Left names0 ws0 (placed names w) ws (found ++ v ∷ [])
left_turn names0 ws0 names w ws found v l e =
    let behind : placed_all (placed names w) ws ≡ placed_all names0 ws0 = sym (placed_all_step names w ws) ∙ l.behind in
    let now : Begins (placed names w) (placed_all names0 ws0) = subst (Begins (placed names w)) behind (placed_all_begins (placed names w) ws) in
    let value : unwrap_or (value_of (placed_all names0 ws0) w) Nil ≡ v = ap (λ o. unwrap_or o Nil) (value_kept names (placed_all names0 ws0) w now ∙ e) in
    let test : is_value w ≡ true = is_value_is (placed names w) w ∙ ap is_some e in
    record {
      behind = behind;
      values = append_assoc found (v ∷ []) _ ∙ ap (λ x. found ++ x ∷ values_of (placed_all names0 ws0) ws) (sym value) ∙ l.values;
      tests = sym (ap (λ b. b && list_all is_value ws) test) ∙ l.tests;
      kept = begins_then _ _ _ l.kept (placed_begins names w);
      room = omega (arith, l.room, placed_length names w);
    }

pub left_bad : (names0 ws0 names : List Text) (w : Text) (ws : List Text) (found : List Value)
    → Left names0 ws0 names (w ∷ ws) found → value_of (placed names w) w ≡ None → list_all is_value ws0 ≡ false
left_bad names0 ws0 names w ws found l e =
    let test : is_value w ≡ false = is_value_is (placed names w) w ∙ ap is_some e in
    sym l.tests ∙ ap (λ b. b && list_all is_value ws) test

-- the names behind one word more, also where nothing more is read
pub left_kept : (names0 ws0 names : List Text) (w : Text) (ws : List Text) (found : List Value) → Left names0 ws0 names (w ∷ ws) found → Begins names0 (placed names w)
left_kept names0 ws0 names w ws found l = begins_then names0 names _ l.kept (placed_begins names w)

pub left_room : (names0 ws0 names : List Text) (w : Text) (ws : List Text) (found : List Value) → Left names0 ws0 names (w ∷ ws) found → length (placed names w) ≤ length names0 + length ws0
left_room names0 ws0 names w ws found l = omega (arith, l.room, placed_length names w)

pub left_names : (names0 ws0 names : List Text) (found : List Value) → Left names0 ws0 names [] found → names ≡ placed_all names0 ws0
left_names names0 ws0 names found l = sym (placed_all_nil names) ∙ l.behind

pub left_values : (names0 ws0 names : List Text) (found : List Value) → Left names0 ws0 names [] found → found ≡ values_of names ws0
left_values names0 ws0 names found l = sym (append-nil found) ∙ l.values ∙ ap (λ n. values_of n ws0) (sym (left_names names0 ws0 names found l))

-- ---- the values go behind those that were there

pub record Behind (names0 ws0 names ws : List Text) (list0 list : List Value) : Type 0 where
  pub found : List Value
  pub is : list ≡ list0 ++ found
  pub left : Left names0 ws0 names ws found

pub behind_start : (names0 ws0 : List Text) (list0 : List Value) → Behind names0 ws0 names0 ws0 list0 list0
behind_start names0 ws0 list0 = record { found = []; is = sym (append-nil list0); left = left_start names0 ws0 }

pub behind_turn : (names0 ws0 names : List Text) (w : Text) (ws : List Text) (list0 list : List Value) (v : Value)
    → Behind names0 ws0 names (w ∷ ws) list0 list → value_of (placed names w) w ≡ Some v → Behind names0 ws0 (placed names w) ws list0 (list ++ v ∷ [])
behind_turn names0 ws0 names w ws list0 list v b e = record {
  found = b.found ++ v ∷ [];
  is = ap (λ l. l ++ v ∷ []) b.is ∙ append_assoc list0 b.found (v ∷ []);
  left = left_turn names0 ws0 names w ws b.found v b.left e;
}

pub behind_values : (names0 ws0 names : List Text) (list0 list : List Value) → Behind names0 ws0 names [] list0 list → list ≡ list0 ++ values_of names ws0
behind_values names0 ws0 names list0 list b = b.is ∙ ap (λ l. list0 ++ l) (left_values names0 ws0 names b.found b.left)

-- ---- a word that begins with no letter is no symbol, and isn't nil

not_nil : (w : Text) → is_ascii_alphabetic (slice_index w 0) ≡ false → is_nil w ≡ false
not_nil [] h = refl
not_nil (b ∷ bs) h = go (b == 110) refl
  where
    same : (b : ℕ) → (b == 110) ≡ true → b ≡ 110
    same b e = grind (arith, nat_tests)

    go : (x : Bool) → (b == 110) ≡ x → is_nil (b ∷ bs) ≡ false
    go true e = absurd (false≢true (sym h ∙ ap is_ascii_alphabetic (same b e)))
    go false e = ap (λ x. x && bytes_eq bs (codes "il")) e

not_symbol : (w : Text) → is_ascii_alphabetic (slice_index w 0) ≡ false → is_symbol w ≡ false
unfolding is_symbol
not_symbol w h = go (not (is_nil w)) (nat_le (length w) 64) (list_all is_symbol_byte w) (is_ascii_alphabetic (slice_index w 0)) h
  where
    go : (a c d b : Bool) → b ≡ false → (a && b && c && d) ≡ false
    go true c d true e = absurd (false≢true (sym e))
    go true c d false e = refl
    go false c d b e = refl

pub number_only : (names : List Text) (w : Text) → is_ascii_alphabetic (slice_index w 0) ≡ false → value_of names w ≡ as_value (number w)
number_only names w h = value_by names w false (not_symbol w h) ∙ ap (λ b. cond b (Some Nil) (as_value (number w))) (not_nil w h)

pub none_placed : (names : List Text) (w : Text) → is_ascii_alphabetic (slice_index w 0) ≡ false → placed names w ≡ names
none_placed names w h = placed_by names w false (not_symbol w h)
