-- The words and the literals of values are these values again.
use Rattle.std.proofs.Common.{◌≡◌, ◌==◌, ℕ, Bool, true, false, cond, List, [], ◌∷◌, drop, codes, Option, Some, None, refl, sym, ap, ◌∙◌, subst, arith, map, ℤ, slice_index}
use Rattle.std.specs.Fmt.{signed_decimal}
use Rattle.std.specs.List.{AllByRecursion}
use Rattle.std.specs.Option.{unwrap_or}
use Rattle.session_values.specs.Names.{AreDistinct, place_of}
use Rattle.session_values.specs.Values.{IsValue}
use Rattle.session_values.specs.declared.value.Value.{Value}
use Rattle.session_values.specs.declared.value.Value.TheVariants.{Nil, Num, Sym}
use Rattle.session_values.proofs.NamesLemmas.{place_is}
use Rattle.text_lines.specs.Text.{Text, words}
use Rattle.text_lines.specs.Values.{is_nil, is_symbol, number, as_value, value_of}
use Rattle.text_lines.proofs.ValueLemmas.{number_only, value_by}
use Rattle.text_lines.specs.ValueWords.{IsSymbolAt, IsWritable, literal_text, literal_value, word_of}
use Rattle.text_lines.specs.Words.{IsWord, spaced}
use Rattle.text_lines.proofs.NumbersBack.{number_back, numeral}
use Rattle.text_lines.proofs.WordsBack.{nil_word, number_word, symbol_word, words_back}

-- ---- words of values, with any names
nil_no_symbol : is_symbol (codes "nil") ≡ false
unfolding is_symbol
nil_no_symbol = refl

pub nil_value : (names : List Text) → value_of names (codes "nil") ≡ Some Nil
nil_value names = value_by names (codes "nil") false nil_no_symbol

pub number_value : (names : List Text) (z : ℤ) → IsValue (Num z) → value_of names (signed_decimal z) ≡ Some (Num z)
number_value names z h = number_only names (signed_decimal z) (numeral z h).letter ∙ ap as_value (number_back z h)

-- ---- the word of a value
symbol_at : (names : List Text) (place : ℕ) (h : IsSymbolAt names place) → word_of names (Sym place) ≡ h.text
symbol_at names place h = ap (λ (o : Option Text). unwrap_or o []) h.at

pub value_back : (names : List Text) (v : Value) → AreDistinct names → IsWritable names v → value_of names (word_of names v) ≡ Some v
value_back names Nil d h = nil_value names
value_back names (Num z) d h = number_value names z h
value_back names (Sym place) d h =
    ap (value_of names) (symbol_at names place h)
    ∙ value_by names h.text true h.symbol
    ∙ ap (λ (p : ℕ). Some (Sym p)) (sym (place_is h.text names place d h.at))

value_word : (names : List Text) (v : Value) → IsWritable names v → IsWord (word_of names v)
value_word names Nil h = nil_word
value_word names (Num z) h = number_word z h
value_word names (Sym place) h = subst IsWord (sym (symbol_at names place h)) (symbol_word h.text h.symbol)

are_words : (names : List Text) (vs : List Value) → AllByRecursion (IsWritable names) vs → AllByRecursion IsWord (map (word_of names) vs)
are_words names [] all = tt
are_words names (v ∷ vs) all = (value_word names v all.0, are_words names vs all.1)

each_back : (names : List Text) (vs : List Value) → AreDistinct names → AllByRecursion (IsWritable names) vs → map (value_of names) (map (word_of names) vs) ≡ map Some vs
each_back names [] d all = refl
each_back names (v ∷ vs) d all = ap (λ (o : Option Value). o ∷ map (value_of names) (map (word_of names) vs)) (value_back names v d all.0) ∙ ap (λ (os : List (Option Value)). Some v ∷ os) (each_back names vs d all.1)

pub values_back : (names : List Text) (vs : List Value) → AreDistinct names → AllByRecursion (IsWritable names) vs → map (value_of names) (words (spaced (map (word_of names) vs))) ≡ map Some vs
values_back names vs d all = ap (map (value_of names)) (words_back (map (word_of names) vs) (are_words names vs all)) ∙ each_back names vs d all

-- ---- literals
literal_by : (names : List Text) (w : Text) (q s t : Bool) → (slice_index w 0 == 39) ≡ q → is_symbol (drop 1 w) ≡ s → is_nil w ≡ t → literal_value names w ≡ cond q (cond s (Some (Sym (place_of names (drop 1 w)))) None) (cond t (Some Nil) (as_value (number w)))
literal_by names w q s t a b c =
    ap (λ (x : Bool). cond x (cond (is_symbol (drop 1 w)) (Some (Sym (place_of names (drop 1 w)))) None) (cond (is_nil w) (Some Nil) (as_value (number w)))) a
    ∙ ap (λ (x : Bool). cond q (cond x (Some (Sym (place_of names (drop 1 w)))) None) (cond (is_nil w) (Some Nil) (as_value (number w)))) b
    ∙ ap (λ (x : Bool). cond q (cond s (Some (Sym (place_of names (drop 1 w)))) None) (cond x (Some Nil) (as_value (number w)))) c

pub literal_back : (names : List Text) (v : Value) → AreDistinct names → IsWritable names v → literal_value names (literal_text names v) ≡ Some v
literal_back names Nil d h = refl
literal_back names (Num z) d h =
    let n = numeral z h in
    literal_by names (signed_decimal z) false (is_symbol (drop 1 (signed_decimal z))) false n.quote refl n.nil ∙ ap as_value (number_back z h)
literal_back names (Sym place) d h =
    ap (λ (t : Text). literal_value names (39 ∷ t)) (symbol_at names place h)
    ∙ literal_by names (39 ∷ h.text) true true (is_nil (39 ∷ h.text)) refl h.symbol refl
    ∙ ap (λ (p : ℕ). Some (Sym p)) (sym (place_is h.text names place d h.at))

after_quote : (w : Text) → IsWord w → IsWord (39 ∷ w)
after_quote w h = record { some = omega arith; all = h.all; line = h.line }

literal_word : (names : List Text) (v : Value) → IsWritable names v → IsWord (literal_text names v)
literal_word names Nil h = nil_word
literal_word names (Num z) h = number_word z h
literal_word names (Sym place) h = after_quote (word_of names (Sym place)) (value_word names (Sym place) h)

are_literals : (names : List Text) (vs : List Value) → AllByRecursion (IsWritable names) vs → AllByRecursion IsWord (map (literal_text names) vs)
are_literals names [] all = tt
are_literals names (v ∷ vs) all = (literal_word names v all.0, are_literals names vs all.1)

each_literal : (names : List Text) (vs : List Value) → AreDistinct names → AllByRecursion (IsWritable names) vs → map (literal_value names) (map (literal_text names) vs) ≡ map Some vs
each_literal names [] d all = refl
each_literal names (v ∷ vs) d all = ap (λ (o : Option Value). o ∷ map (literal_value names) (map (literal_text names) vs)) (literal_back names v d all.0) ∙ ap (λ (os : List (Option Value)). Some v ∷ os) (each_literal names vs d all.1)

pub literals_back : (names : List Text) (vs : List Value) → AreDistinct names → AllByRecursion (IsWritable names) vs → map (literal_value names) (words (spaced (map (literal_text names) vs))) ≡ map Some vs
literals_back names vs d all = ap (map (literal_value names)) (words_back (map (literal_text names) vs) (are_literals names vs all)) ∙ each_literal names vs d all
