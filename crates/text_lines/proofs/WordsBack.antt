-- Words with a space between two, and lines of words, are these words again.
use Rattle.std.proofs.Common.{◌≡◌, ℕ, suc, ◌<◌, Bool, true, false, ◌&&◌, List, [], ◌∷◌, ◌++◌, length, refl, ap, ◌∙◌, arith, map, ℤ, pos, negsuc, codes, ◌^◌}
use Rattle.std.proofs.lemmas.Bool.Decides.{nat_tests}
use Rattle.std.proofs.lemmas.Fmt.{digits_decimal, decimal_nonempty}
use Rattle.std.specs.Fmt.{decimal, signed_decimal}
use Rattle.std.specs.List.{list_all, AllByRecursion}
use Rattle.std.specs.Str.{all_ascii_digits}
use Rattle.session_values.specs.declared.value.Value.TheVariants.{Num}
use Rattle.session_values.specs.Values.{IsValue}
use Rattle.text_lines.specs.Bytes.{is_symbol_byte}
use Rattle.text_lines.specs.Text.{Text, is_line_byte, is_word_byte, attach, in_word, lines, words}
use Rattle.text_lines.specs.Values.{is_symbol}
use Rattle.text_lines.proofs.NumberLemmas.{numerals}
use Rattle.text_lines.proofs.TextLemmas.{lines_nil, words_alone, words_more}
use Rattle.text_lines.proofs.WholeTexts.{line_joined}
use Rattle.text_lines.specs.Words.{IsWord, after_spaces, rows_text, spaced}

-- ---- what holds of all bytes holds of the first, and of the others
first_in : (p : ℕ → Bool) (b : ℕ) (bs : Text) → list_all p (b ∷ bs) ≡ true → p b ≡ true
first_in p b bs e = go (p b) e
  where
    go : (x : Bool) → (x && list_all p bs) ≡ true → x ≡ true
    go true e = refl
    go false e = e

rest_in : (p : ℕ → Bool) (b : ℕ) (bs : Text) → list_all p (b ∷ bs) ≡ true → list_all p bs ≡ true
rest_in p b bs e = go (p b) e
  where
    go : (x : Bool) → (x && list_all p bs) ≡ true → list_all p bs ≡ true
    go true e = e
    go false e = cc

all_in : (p q : ℕ → Bool) → ((b : ℕ) → p b ≡ true → q b ≡ true) → (bs : Text) → list_all p bs ≡ true → list_all q bs ≡ true
all_in p q f [] e = refl
all_in p q f (b ∷ bs) e = ap (λ (x : Bool). x && list_all q bs) (f b (first_in p b bs e)) ∙ all_in p q f bs (rest_in p b bs e)

-- ---- words of a line
pub words_space : (bs : Text) → words (32 ∷ bs) ≡ words bs
unfolding words
words_space bs = refl

-- a word before something that doesn't go on with it
word_front : (w : Text) (back : Text) → IsWord w → in_word back ≡ false → words (w ++ back) ≡ w ∷ words back
word_front [] back h e = absurd (omega (arith, h.some))
word_front (b ∷ []) back h e = words_alone b back (first_in is_word_byte b [] h.all) e
word_front (b ∷ c ∷ cs) back h e =
    let later : list_all is_word_byte (c ∷ cs) ≡ true = rest_in is_word_byte b (c ∷ cs) h.all in
    words_more b ((c ∷ cs) ++ back) (first_in is_word_byte b (c ∷ cs) h.all) (first_in is_word_byte c cs later)
    ∙ ap (attach b) (word_front (c ∷ cs) back (record { some = omega arith; all = later; line = rest_in is_line_byte b (c ∷ cs) h.line }) e)

no_word : (ws : List Text) → in_word (after_spaces ws) ≡ false
no_word [] = refl
no_word (w ∷ ws) = refl

after_back : (ws : List Text) → AllByRecursion IsWord ws → words (after_spaces ws) ≡ ws
unfolding words
after_back [] all = refl
after_back (w ∷ ws) all =
    words_space (w ++ after_spaces ws)
    ∙ word_front w (after_spaces ws) all.0 (no_word ws)
    ∙ ap (λ (xs : List Text). w ∷ xs) (after_back ws all.1)

pub words_back : (ws : List Text) → AllByRecursion IsWord ws → words (spaced ws) ≡ ws
unfolding words
words_back [] all = refl
words_back (w ∷ ws) all =
    word_front w (after_spaces ws) all.0 (no_word ws)
    ∙ ap (λ (xs : List Text). w ∷ xs) (after_back ws all.1)

-- ---- lines of words
line_append : (xs ys : Text) → list_all is_line_byte xs ≡ true → list_all is_line_byte ys ≡ true → list_all is_line_byte (xs ++ ys) ≡ true
line_append [] ys a b = b
line_append (x ∷ xs) ys a b = ap (λ (t : Bool). t && list_all is_line_byte (xs ++ ys)) (first_in is_line_byte x xs a) ∙ line_append xs ys (rest_in is_line_byte x xs a) b

after_line : (ws : List Text) → AllByRecursion IsWord ws → list_all is_line_byte (after_spaces ws) ≡ true
after_line [] all = refl
after_line (w ∷ ws) all = line_append w (after_spaces ws) all.0.line (after_line ws all.1)

spaced_line : (ws : List Text) → AllByRecursion IsWord ws → list_all is_line_byte (spaced ws) ≡ true
spaced_line [] all = refl
spaced_line (w ∷ ws) all = line_append w (after_spaces ws) all.0.line (after_line ws all.1)

-- a line of words before a text
pub line_front : (ws : List Text) (back : Text) → AllByRecursion IsWord ws → lines (spaced ws ++ 10 ∷ back) ≡ spaced ws ∷ lines back
line_front ws back all = line_joined (spaced ws) back (spaced_line ws all)

pub rows_back : (wss : List (List Text)) → AllByRecursion (AllByRecursion IsWord) wss → map words (lines (rows_text wss)) ≡ wss
rows_back [] all = ap (map words) lines_nil
rows_back (ws ∷ wss) all =
    ap (map words) (line_front ws (rows_text wss) all.0)
    ∙ ap (λ (xs : List Text). xs ∷ map words (lines (rows_text wss))) (words_back ws all.0)
    ∙ ap (λ (xss : List (List Text)). ws ∷ xss) (rows_back wss all.1)

-- ---- what is written of a value is a word
digits_in : (bs : Text) → all_ascii_digits bs ≡ true → list_all is_word_byte bs ≡ true
digits_in [] e = refl
digits_in (b ∷ bs) e = grind (arith, nat_tests, e, digits_in bs)

digits_line : (bs : Text) → all_ascii_digits bs ≡ true → list_all is_line_byte bs ≡ true
digits_line [] e = refl
digits_line (b ∷ bs) e = grind (arith, nat_tests, e, digits_line bs)

decimal_word : (n : ℕ) → n < 2 ^ 64 → IsWord (decimal n)
decimal_word n h = record { some = decimal_nonempty n h; all = digits_in (decimal n) (digits_decimal numerals n h); line = digits_line (decimal n) (digits_decimal numerals n h) }

pub nil_word : IsWord (codes "nil")
nil_word = record { some = omega arith; all = refl; line = refl }

pub number_word : (z : ℤ) → IsValue (Num z) → IsWord (signed_decimal z)
number_word (pos n) h = decimal_word n (omega (arith, h))
number_word (negsuc n) h = let w = decimal_word (suc n) (omega (arith, h)) in record { some = omega arith; all = w.all; line = w.line }

symbol_line : (b : ℕ) → is_symbol_byte b ≡ true → is_line_byte b ≡ true
symbol_line b e = grind (arith, nat_tests, e)

symbol_in : (b : ℕ) → is_symbol_byte b ≡ true → is_word_byte b ≡ true
symbol_in b e = grind (arith, nat_tests, e)

symbol_all : (w : Text) → is_symbol w ≡ true → list_all is_symbol_byte w ≡ true
unfolding is_symbol
symbol_all w e = grind (arith, nat_tests, e)

symbol_some : (w : Text) → is_symbol w ≡ true → 0 < length w
unfolding is_symbol
symbol_some [] e = cc
symbol_some (b ∷ bs) e = omega arith

pub symbol_word : (t : Text) → is_symbol t ≡ true → IsWord t
symbol_word t h = record { some = symbol_some t h; all = all_in is_symbol_byte is_word_byte symbol_in t (symbol_all t h); line = all_in is_symbol_byte is_line_byte symbol_line t (symbol_all t h) }
