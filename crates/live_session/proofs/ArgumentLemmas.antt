-- Arguments that are given without a line, and the words that say them.
use Rattle.std.proofs.Common.{◌≡◌, ◌≢◌, ℕ, suc, zero, ◌+◌, ◌≤◌, Bool, true, false, if◌then◌else◌, List, [], ◌∷◌, ◌++◌, length, drop, codes, Option, Some, None, slice_get, refl, sym, ◌∙◌, ap, subst, ℤ}
use Rattle.std.proofs.lemmas.List.{drop_all}
use Rattle.std.proofs.lemmas.Option.{slice_get_past}
use Rattle.std.specs.Fmt.{signed_decimal}
use Rattle.std.specs.List.{AllByRecursion, position}
use Rattle.std.specs.Option.{option_or, unwrap_or}
use Rattle.std.specs.Str.{bytes_eq}
use Rattle.session_values.specs.Names.{AreDistinct, Begins, place_of}
use Rattle.session_values.specs.Values.{IsValue}
use Rattle.session_values.specs.declared.value.Value.{Value}
use Rattle.session_values.specs.declared.value.Value.TheVariants.{Nil, Num, Sym}
use Rattle.session_values.proofs.Named.{front_kept}
use Rattle.session_values.proofs.NamesLemmas.{known_at, no_choice, place_is, with_known, with_new}
use Rattle.session_values.proofs.Options.{drop_step}
use Rattle.text_lines.specs.Text.{Text}
use Rattle.text_lines.specs.Values.{is_symbol, placed, placed_all}
use Rattle.text_lines.specs.Words.{IsWord}
use Rattle.text_lines.proofs.NumbersBack.{numeral}
use Rattle.text_lines.proofs.ValueLemmas.{Behind, none_placed, placed_all_begins, placed_all_step, placed_by, value_by}
use Rattle.text_lines.proofs.ValuesBack.{nil_value, number_value}
use Rattle.text_lines.proofs.WordsBack.{nil_word, number_word, symbol_word}
use Rattle.live_session.specs.declared.answers.InvokeError.{InvokeError}
use Rattle.live_session.specs.declared.answers.InvokeError.TheVariants as uninvoked
use Rattle.live_session.specs.declared.argument.Argument.{Argument}
use Rattle.live_session.specs.declared.argument.Argument.TheVariants as argument
use Rattle.live_session.specs.ArgumentWords.{IsHeld, Known, argument_fault, first_fault, name_at, word_of, words_of}
use Rattle.live_session.proofs.Words.{absent, longer}

-- ---- texts

-- a test whose first outcome is that nothing is wrong
pub passed_test : (b : Bool) (e : InvokeError) → (if b then None else Some e) ≡ None → b ≡ true
passed_test true e h = refl
passed_test false e h = absurd (cc)

nil_symbol : is_symbol (codes "nil") ≡ false
unfolding is_symbol
nil_symbol = refl

empty_symbol : is_symbol [] ≡ false
unfolding is_symbol
empty_symbol = refl

-- the text of a symbol's name stands at its place
pub name_there : (names : List Text) (n : ℕ) → is_symbol (name_at names n) ≡ true → slice_get names n ≡ Some (name_at names n)
name_there names n h = go (slice_get names n) refl
  where
    some_text : (o : Option Text) → is_symbol (unwrap_or o []) ≡ true → o ≡ Some (unwrap_or o [])
    some_text (Some t) e = refl
    some_text None e = absurd (both (is_symbol []) empty_symbol e)
      where
        both : (b : Bool) → b ≡ false → b ≡ true → ⊥
        both b p q = cc

    go : (o : Option Text) → slice_get names n ≡ o → slice_get names n ≡ Some (name_at names n)
    go o e = some_text (slice_get names n) h

pub no_name : (names : List Text) (n : ℕ) → length names ≤ n → is_symbol (name_at names n) ≡ false
no_name names n h = ap (λ (o : Option Text). is_symbol (unwrap_or o [])) (slice_get_past names n h) ∙ empty_symbol

pub name_kept : (old now : List Text) (n : ℕ) → Begins old now → is_symbol (name_at old n) ≡ true → name_at now n ≡ name_at old n
name_kept old now n b h =
    ap (λ (ns : List Text). name_at ns n) b.1 ∙ ap (λ (o : Option Text). unwrap_or o []) (front_kept old b.0 n (name_at old n) (name_there old n h))

-- ---- one argument

pub word_kept : (old now : List Text) (a : Argument) → Begins old now → argument_fault old a ≡ None → word_of now a ≡ word_of old a
word_kept old now argument.Nil b h = refl
word_kept old now (argument.Number n) b h = refl
word_kept old now (argument.Symbol t) b h = refl
word_kept old now (argument.Name n) b h = name_kept old now n b (passed_test _ _ h)

pub fault_kept : (old now : List Text) (a : Argument) → Begins old now → argument_fault old a ≡ None → argument_fault now a ≡ None
fault_kept old now argument.Nil b h = refl
fault_kept old now (argument.Number n) b h = refl
fault_kept old now (argument.Symbol t) b h = h
fault_kept old now (argument.Name n) b h =
    ap (λ (t : Text). if is_symbol t then None else Some uninvoked.NoName) (name_kept old now n b (passed_test _ _ h)) ∙ h

pub word_is : (names : List Text) (a : Argument) → argument_fault names a ≡ None → IsHeld a → IsWord (word_of names a)
word_is names argument.Nil h held = nil_word
word_is names (argument.Number n) h held = number_word n held
word_is names (argument.Symbol t) h held = symbol_word t.now (passed_test _ _ h)
word_is names (argument.Name n) h held = symbol_word (name_at names n) (passed_test _ _ h)

-- ---- its value

pub known_nil : (names : List Text) → Known names (codes "nil") (Some Nil)
known_nil names = (nil_value names, placed_by names (codes "nil") false nil_symbol)

pub known_number : (names : List Text) (n : ℤ) → IsValue (Num n) → Known names (signed_decimal n) (Some (Num n))
known_number names n h = (number_value names n h, none_placed names (signed_decimal n) (numeral n h).letter)

pub known_new : (names : List Text) (w : Text) → is_symbol w ≡ true → position (bytes_eq w) names ≡ None → Known names w None
known_new names w s at =
    placed_by names w true s ∙ with_new names w (absent w names (no_choice (place_of names w) (length names) _ refl at))

pub known_name : (names : List Text) (n : ℕ) → AreDistinct names → is_symbol (name_at names n) ≡ true → Known names (name_at names n) (Some (Sym n))
known_name names n apart s =
    let w : Text = name_at names n in
    let at = name_there names n s in (
      value_by names w true s ∙ ap (λ (p : ℕ). Some (Sym p)) (sym (place_is w names n apart at)),
      placed_by names w true s ∙ with_known names w (known_at w names n at),
    )

-- the same of an argument that is one of these
pub known_at_nil : (names : List Text) (a : Argument) → a ≡ argument.Nil → Known names (word_of names a) (Some Nil)
known_at_nil names a is = subst (λ (x : Argument). Known names (word_of names x) (Some Nil)) (sym is) (known_nil names)

pub known_at_number : (names : List Text) (a : Argument) (n z : ℤ) → a ≡ argument.Number n → z ≡ n → IsHeld a → Known names (word_of names a) (Some (Num z))
known_at_number names a n z is same held =
    let one : Known names (signed_decimal n) (Some (Num z)) = subst (λ (y : ℤ). Known names (signed_decimal n) (Some (Num y))) (sym same) (known_number names n (subst IsHeld is held)) in
    subst (λ (x : Argument). Known names (word_of names x) (Some (Num z))) (sym is) one

pub known_at_name : (names : List Text) (a : Argument) (n : ℕ) → a ≡ argument.Name n → AreDistinct names → argument_fault names a ≡ None → Known names (word_of names a) (Some (Sym n))
known_at_name names a n is apart fine =
    let yes = passed_test _ _ (subst (λ (x : Argument). argument_fault names x ≡ None) is fine) in
    subst (λ (x : Argument). Known names (word_of names x) (Some (Sym n))) (sym is) (known_name names n apart yes)

-- ---- all arguments

pub held_at : (args : List Argument) (i : ℕ) (a : Argument) → AllByRecursion IsHeld args → slice_get args i ≡ Some a → IsHeld a
held_at [] i a h at = absurd (cc)
held_at (x ∷ xs) zero a h at = let same : x ≡ a = cc in subst IsHeld same h.0
held_at (x ∷ xs) (suc i) a h at = held_at xs i a h.1 at

-- a word that is new makes the names others
pub made_new : (names ws0 : List Text) (w : Text) (ws : List Text) (list0 list : List Value) → Behind names ws0 names (w ∷ ws) list0 list → placed names w ≡ names ++ w ∷ [] → placed_all names ws0 ≢ names
made_new names ws0 w ws list0 list b new =
    let on : placed_all (names ++ w ∷ []) ws ≡ placed_all names ws0 = ap (λ (ns : List Text). placed_all ns ws) (sym new) ∙ sym (placed_all_step names w ws) ∙ b.left.behind in
    longer names w (placed_all names ws0) (subst (Begins (names ++ w ∷ [])) on (placed_all_begins (names ++ w ∷ []) ws))

-- nothing is wrong with the first, nor with the others
pub fine_both : (o rest : Option InvokeError) → option_or o rest ≡ None → (o ≡ None) × (rest ≡ None)
fine_both None rest h = (refl, h)
fine_both (Some e) rest h = absurd (cc)

pub fine_at : (names : List Text) (args : List Argument) (i : ℕ) (a : Argument) → first_fault names args ≡ None → slice_get args i ≡ Some a → argument_fault names a ≡ None
fine_at names [] i a h at = absurd (cc)
fine_at names (x ∷ xs) zero a h at =
    let same : x ≡ a = cc in
    subst (λ (y : Argument). argument_fault names y ≡ None) same (fine_both (argument_fault names x) (first_fault names xs) h).0
fine_at names (x ∷ xs) (suc i) a h at = fine_at names xs i a (fine_both (argument_fault names x) (first_fault names xs) h).1 at

pub words_step : (names : List Text) (args : List Argument) (i : ℕ) (a : Argument) → slice_get args i ≡ Some a → words_of names (drop i args) ≡ word_of names a ∷ words_of names (drop (i + 1) args)
words_step names args i a at = ap (words_of names) (drop_step args i a at)

pub fault_step : (names : List Text) (args : List Argument) (i : ℕ) (a : Argument) → slice_get args i ≡ Some a → first_fault names (drop i args) ≡ option_or (argument_fault names a) (first_fault names (drop (i + 1) args))
fault_step names args i a at = ap (first_fault names) (drop_step args i a at)

pub words_long : (names : List Text) (args : List Argument) → length (words_of names args) ≡ length args
words_long names [] = refl
words_long names (a ∷ args) = ap suc (words_long names args)

pub words_are : (names : List Text) (args : List Argument) → first_fault names args ≡ None → AllByRecursion IsHeld args → AllByRecursion IsWord (words_of names args)
words_are names [] h held = tt
words_are names (a ∷ args) h held =
    let fine = fine_both (argument_fault names a) (first_fault names args) h in
    (word_is names a fine.0 held.0, words_are names args fine.1 held.1)

-- behind the last argument no words are left
pub no_words : (names : List Text) (args : List Argument) (i : ℕ) → length args ≤ i → words_of names (drop i args) ≡ []
no_words names args i past = ap (words_of names) (drop_all i args past)
