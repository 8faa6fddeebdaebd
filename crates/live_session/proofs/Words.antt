-- Words whose symbols are among the names.
use Rattle.std.proofs.Common.{◌≡◌, ◌≢◌, ℕ, suc, ◌+◌, ◌≤◌, ◌⊎◌, inl, inr, Bool, true, false, not, ◌||◌, ◌&&◌, cond, List, [], ◌∷◌, ◌++◌, length, Option, Some, None, MatchOption, refl, sym, ◌∙◌, ap, subst, arith, length-append}
use Rattle.std.specs.List.{list_all, list_any, position}
use Rattle.std.specs.Str.{bytes_eq}
use Rattle.std.specs.Option.{is_some}
use Rattle.std.specs.Prelude.{slice_get}
use Rattle.session_values.specs.Names.{Begins, place_of}
use Rattle.session_values.specs.declared.value.Value.{Value}
use Rattle.session_values.specs.declared.value.Value.TheVariants.{Sym}
use Rattle.session_values.proofs.NamesLemmas.{choice, known_at, no_choice, with_known, with_new}
use Rattle.text_lines.specs.Text.{Text}
use Rattle.text_lines.specs.Values.{is_symbol, is_value, placed, placed_all, value_of}
use Rattle.text_lines.proofs.ValueLemmas.{Behind, is_value_is, left_bad, placed_all_begins, placed_all_step, placed_by, value_by}

-- ---- one word

pub symbol_is_value : (w : Text) → is_symbol w ≡ true → is_value w ≡ true
symbol_is_value w e = is_value_is [] w ∙ ap is_some (value_by [] w true e)

-- what a look-up answers: the word's value where it places nothing, or nothing where it is no value
-- or is new
abbrev pub Known : List Text → Text → Option Value → Type 0
Known names w o = MatchOption o ((value_of names w ≡ None) ⊎ (placed names w ≡ names ++ w ∷ []))
    (λ v. (value_of names w ≡ Some v) × (placed names w ≡ names))

pub plain_known : (names : List Text) (w : Text) (o : Option Value) → is_symbol w ≡ false → o ≡ value_of names w → Known names w o
plain_known names w None s e = inl (sym e)
plain_known names w (Some v) s e = (sym e, placed_by names w false s)

pub symbol_found : (names : List Text) (w : Text) (i : ℕ) → is_symbol w ≡ true → position (bytes_eq w) names ≡ Some i → slice_get names i ≡ Some w → Known names w (Some (Sym i))
symbol_found names w i s at is =
    let same : place_of names w ≡ i = (choice (place_of names w) (length names) i _ refl at).0 in
    (value_by names w true s ∙ ap (λ (n : ℕ). Some (Sym n)) same, placed_by names w true s ∙ with_known names w (known_at w names i is))

pub absent : (t : Text) (names : List Text) → length names ≤ place_of names t → list_any (bytes_eq t) names ≡ false
absent t [] h = refl
absent t (x ∷ xs) h = go (bytes_eq t x) refl (absent t xs)
  where
    go : (b : Bool) → bytes_eq t x ≡ b → (length xs ≤ place_of xs t → list_any (bytes_eq t) xs ≡ false) → list_any (bytes_eq t) (x ∷ xs) ≡ false
    go true e more = absurd (omega (arith, subst (λ (b : Bool). suc (length xs) ≤ cond (not b) (1 + place_of xs t) 0) e h))
    go false e more =
        let rest : length xs ≤ place_of xs t = omega (arith, subst (λ (b : Bool). suc (length xs) ≤ cond (not b) (1 + place_of xs t) 0) e h) in
        ap (λ (b : Bool). (b || list_any (bytes_eq t) xs)) e ∙ more rest

pub symbol_new : (names : List Text) (w : Text) → is_symbol w ≡ true → position (bytes_eq w) names ≡ None → Known names w None
symbol_new names w s at =
    inr (placed_by names w true s ∙ with_new names w (absent w names (no_choice (place_of names w) (length names) _ refl at)))

-- ---- all words

pub all_step : (w : Text) (ws : List Text) → is_value w ≡ true → list_all is_value (w ∷ ws) ≡ list_all is_value ws
all_step w ws e = ap (λ (b : Bool). (b && list_all is_value ws)) e

pub all_stop : (w : Text) (ws : List Text) → is_value w ≡ false → list_all is_value (w ∷ ws) ≡ false
all_stop w ws e = ap (λ (b : Bool). (b && list_all is_value ws)) e

-- names that begin with one name more are others
pub longer : (names : List Text) (w : Text) (all : List Text) → Begins (names ++ w ∷ []) all → all ≢ names
longer names w all b e =
    let one = length-append names (w ∷ []) in
    let more = length-append (names ++ w ∷ []) b.0 in
    let whole = ap (λ (l : List Text). length l) b.1 in
    let same = ap (λ (l : List Text). length l) e in
    omega (arith, one, more, whole, same)

-- where a word is no value or is new, not all words are values that are known
pub not_known : (names0 ws0 names : List Text) (w : Text) (ws : List Text) (list0 list : List Value) → names ≡ names0 → Behind names0 ws0 names (w ∷ ws) list0 list
    → Known names w None → list_all is_value ws0 ≡ true → placed_all names0 ws0 ≢ names0
not_known names0 ws0 names w ws list0 list same b (inl none) fine e = absurd (both (list_all is_value ws0) fine (bad none))
  where
    both : (x : Bool) → x ≡ true → x ≡ false → ⊥
    both x p q = cc

    value_placed : is_symbol w ≡ is_symbol w → value_of names w ≡ None → value_of (placed names w) w ≡ None
    value_placed s n = go (is_symbol w) refl
      where
        some_none : (v : Value) → ◌≡◌ {A = Option Value} (Some v) None → ⊥
        some_none v p = cc

        go : (x : Bool) → is_symbol w ≡ x → value_of (placed names w) w ≡ None
        go true p = absurd (some_none (Sym (place_of names w)) (sym (value_by names w true p) ∙ n))
        go false p = ap (λ (ns : List Text). value_of ns w) (placed_by names w false p) ∙ n

    bad : value_of names w ≡ None → list_all is_value ws0 ≡ false
    bad n = left_bad names0 ws0 names w ws b.found b.left (value_placed refl n)
not_known names0 ws0 names w ws list0 list same b (inr new) fine e =
    let on : placed_all (names ++ w ∷ []) ws ≡ placed_all names0 ws0 = ap (λ (ns : List Text). placed_all ns ws) (sym new) ∙ sym (placed_all_step names w ws) ∙ b.left.behind in
    longer names w (placed_all names0 ws0) (subst (Begins (names ++ w ∷ [])) on (placed_all_begins (names ++ w ∷ []) ws)) (e ∙ sym same)
