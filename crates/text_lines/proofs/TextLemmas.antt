-- The line and the word at the front of a text.
use Rattle.std.proofs.Common.{◌≡◌, ℕ, zero, suc, ◌+◌, ◌<◌, ◌≤◌, Bool, true, false, not, cond, ◌||◌, ◌==◌, min, List, [], ◌∷◌, length, get_or, take, drop, IsUtf8, refl, sym, ap, ◌∙◌, subst, inl, inr, arith, add-one}
use Rattle.std.proofs.Math.Numerals.{one-add}
use Rattle.std.proofs.lemmas.Bool.{cases_lt}
use Rattle.std.proofs.lemmas.Bool.Decides.{nat_tests}
use Rattle.std.proofs.lemmas.List.{drop_all}
use Rattle.std.proofs.lemmas.List.Sums.{prefix_len-le-length, prefix_len_passes, prefix_len_stops}
use Rattle.std.proofs.lemmas.Str.{IsCharBoundary-start, IsCharBoundary-end, IsCharBoundary-before_ascii, IsCharBoundary-after_ascii}
use Rattle.std.specs.List.{prefix_len}
use Rattle.std.specs.Str.{IsCharBoundary}
use Rattle.text_lines.specs.Bytes.{is_blank}
use Rattle.text_lines.specs.Text.{Text, is_word_byte, is_line_byte, attach, lines, in_word, words}

-- ---- where runs end

-- a run that only an ASCII byte stops ends where a character does
pub boundary_stopped : (p : ℕ → Bool) (bs : Text) → ((c : ℕ) → p c ≡ false → c < 128) → IsCharBoundary bs (prefix_len p bs)
boundary_stopped p bs ascii =
    elim (cases_lt (prefix_len p bs) (length bs)) [
      | inl h ↦ IsCharBoundary-before_ascii bs (prefix_len p bs) h (ascii _ (prefix_len_stops p bs 0 h))
      | inr h ↦ let e : length bs ≡ prefix_len p bs = omega (arith, prefix_len-le-length p bs) in subst (IsCharBoundary bs) e (IsCharBoundary-end bs)
    ]

after_run : (p : ℕ → Bool) (bs : Text) (n : ℕ) → prefix_len p bs ≡ n → IsUtf8 bs → ((c : ℕ) → p c ≡ true → c < 128) → IsCharBoundary bs n
after_run p bs zero e utf8 ascii = IsCharBoundary-start bs utf8
after_run p bs (suc k) e utf8 ascii =
    rw (← add-one) (IsCharBoundary-after_ascii bs k utf8 (omega (arith, prefix_len-le-length p bs)) (ascii _ (prefix_len_passes p bs k 0 (omega arith))))

-- a run of ASCII bytes too
pub boundary_run : (p : ℕ → Bool) (bs : Text) → IsUtf8 bs → ((c : ℕ) → p c ≡ true → c < 128) → IsCharBoundary bs (prefix_len p bs)
boundary_run p bs = after_run p bs _ refl

pub blank_ascii : (c : ℕ) → is_blank c ≡ true → c < 128
blank_ascii c e = grind (arith, nat_tests)

pub word_stop_ascii : (c : ℕ) → is_word_byte c ≡ false → c < 128
word_stop_ascii c e = grind (arith, nat_tests)

pub line_stop_ascii : (c : ℕ) → is_line_byte c ≡ false → c < 128
line_stop_ascii c e = grind (arith, nat_tests)

pub line_stop_is : (c : ℕ) → is_line_byte c ≡ false → c ≡ 10
line_stop_is c e = grind (arith, nat_tests)

-- ---- lines

abbrev pub line_of : Text → Text
line_of bs = take (prefix_len is_line_byte bs) bs

abbrev pub after_line : Text → Text
after_line bs = drop (suc (prefix_len is_line_byte bs)) bs

pub lines_nil : lines [] ≡ []
unfolding lines
lines_nil = refl

line_turn : (b : ℕ) (bs : Text) (t : Bool) → is_line_byte b ≡ t → attach b (lines bs) ≡ (b ∷ line_of bs) ∷ lines (after_line bs)
    → lines (b ∷ bs) ≡ line_of (b ∷ bs) ∷ lines (after_line (b ∷ bs))
unfolding lines
line_turn b bs true e ih = rw (e, one-add) ih
line_turn b bs false e ih = rw e refl

-- the line at the front, and those behind its line feed
lines_front : (b : ℕ) (bs : Text) → lines (b ∷ bs) ≡ line_of (b ∷ bs) ∷ lines (after_line (b ∷ bs))
unfolding lines
lines_front b [] = line_turn b [] _ refl refl
lines_front b (c ∷ cs) = line_turn b (c ∷ cs) _ refl (ap (attach b) (lines_front c cs))

pub lines_some : (bs : Text) → 0 < length bs → lines bs ≡ line_of bs ∷ lines (after_line bs)
lines_some [] h = absurd (omega arith)
lines_some (b ∷ bs) h = lines_front b bs

line_end : (bs : Text) (n : ℕ) → drop (min (n + 1) (length bs)) bs ≡ drop (suc n) bs
line_end bs n = elim (cases_lt n (length bs)) [
  | inl h ↦ ap (λ k. drop k bs) (let e : min (n + 1) (length bs) ≡ suc n = omega arith in e)
  | inr h ↦ let e : min (n + 1) (length bs) ≡ length bs = omega arith in ap (λ k. drop k bs) e ∙ drop_all (length bs) bs (omega arith) ∙ sym (drop_all (suc n) bs (omega arith))
]

pub boundary_line_end : (bs : Text) → IsUtf8 bs → IsCharBoundary bs (min (prefix_len is_line_byte bs + 1) (length bs))
boundary_line_end bs utf8 = elim (cases_lt (prefix_len is_line_byte bs) (length bs)) [
  | inl h ↦ let e : prefix_len is_line_byte bs + 1 ≡ min (prefix_len is_line_byte bs + 1) (length bs) = omega arith in
      subst (IsCharBoundary bs) e (IsCharBoundary-after_ascii bs (prefix_len is_line_byte bs) utf8 h (line_stop_ascii _ (prefix_len_stops is_line_byte bs 0 h)))
  | inr h ↦ let e : length bs ≡ min (prefix_len is_line_byte bs + 1) (length bs) = omega arith in subst (IsCharBoundary bs) e (IsCharBoundary-end bs)
]

-- what a line takes from a text
pub lines_cut : (bs line next : Text) (n : ℕ) → 0 < length bs → n ≡ prefix_len is_line_byte bs → line ≡ take n bs → next ≡ drop (min (n + 1) (length bs)) bs → lines bs ≡ line ∷ lines next
lines_cut bs line next n some is front back =
    let a : next ≡ after_line bs = back ∙ line_end bs n ∙ ap (λ n. drop (suc n) bs) is in
    let l : line ≡ line_of bs = front ∙ ap (λ n. take n bs) is in
    lines_some bs some ∙ ap (λ t. t ∷ lines (after_line bs)) (sym l) ∙ ap (λ t. line ∷ lines t) (sym a)

pub none_left : (bs : Text) → length bs ≡ 0 → lines bs ≡ []
none_left [] h = lines_nil
none_left (b ∷ bs) h = absurd (omega arith)

-- ---- words

pub len_yes : (p : ℕ → Bool) (b : ℕ) (bs : Text) → p b ≡ true → prefix_len p (b ∷ bs) ≡ suc (prefix_len p bs)
len_yes p b bs e = ap (λ t. cond t (1 + prefix_len p bs) 0) e ∙ one-add (prefix_len p bs)

pub len_no : (p : ℕ → Bool) (b : ℕ) (bs : Text) → p b ≡ false → prefix_len p (b ∷ bs) ≡ 0
len_no p b bs e = ap (λ t. cond t (1 + prefix_len p bs) 0) e

-- the four rules of `words`
abbrev inside : ℕ → Text → List Text
inside b bs = cond (in_word bs) (attach b (words bs)) ((b ∷ []) ∷ words bs)

abbrev outside : ℕ → Text → List Text
outside b bs = cond (is_blank b) (words bs) []

pub words_more : (b : ℕ) (bs : Text) → is_word_byte b ≡ true → in_word bs ≡ true → words (b ∷ bs) ≡ attach b (words bs)
unfolding words
words_more b bs is e = ap (λ t. cond t (inside b bs) (outside b bs)) is ∙ ap (λ t. cond t (attach b (words bs)) ((b ∷ []) ∷ words bs)) e

pub words_alone : (b : ℕ) (bs : Text) → is_word_byte b ≡ true → in_word bs ≡ false → words (b ∷ bs) ≡ (b ∷ []) ∷ words bs
unfolding words
words_alone b bs is e = ap (λ t. cond t (inside b bs) (outside b bs)) is ∙ ap (λ t. cond t (attach b (words bs)) ((b ∷ []) ∷ words bs)) e

words_blank : (b : ℕ) (bs : Text) → is_blank b ≡ true → words (b ∷ bs) ≡ words bs
unfolding words
words_blank b bs e = ap (λ t. cond (not (t || b == 35)) (inside b bs) (cond t (words bs) [])) e

pub words_end : (b : ℕ) (bs : Text) → is_word_byte b ≡ false → is_blank b ≡ false → words (b ∷ bs) ≡ []
unfolding words
words_end b bs is e = ap (λ t. cond t (inside b bs) (outside b bs)) is ∙ ap (λ t. cond t (words bs) []) e

pub words_nil : words [] ≡ []
unfolding words
words_nil = refl

skip_turn : (b : ℕ) (bs : Text) (t : Bool) → is_blank b ≡ t → words bs ≡ words (drop (prefix_len is_blank bs) bs) → words (b ∷ bs) ≡ words (drop (prefix_len is_blank (b ∷ bs)) (b ∷ bs))
skip_turn b bs true e ih = words_blank b bs e ∙ ih ∙ ap (λ n. words (drop n (b ∷ bs))) (sym (len_yes is_blank b bs e))
skip_turn b bs false e ih = ap (λ n. words (drop n (b ∷ bs))) (sym (len_no is_blank b bs e))

-- blanks are passed over
pub words_skip : (bs : Text) → words bs ≡ words (drop (prefix_len is_blank bs) bs)
words_skip [] = refl
words_skip (b ∷ bs) = skip_turn b bs _ refl (words_skip bs)

abbrev front_at : Text → ℕ → List Text
front_at bs n = take n bs ∷ words (drop n bs)

grow_turn : (b c : ℕ) (cs : Text) (t : Bool) → is_word_byte b ≡ true → is_word_byte c ≡ t → (t ≡ true → words (c ∷ cs) ≡ front_at (c ∷ cs) (prefix_len is_word_byte (c ∷ cs)))
    → words (b ∷ c ∷ cs) ≡ front_at (b ∷ c ∷ cs) (prefix_len is_word_byte (b ∷ c ∷ cs))
grow_turn b c cs true is e ih = words_more b (c ∷ cs) is e ∙ ap (attach b) (ih refl) ∙ ap (front_at (b ∷ c ∷ cs)) (sym (len_yes is_word_byte b (c ∷ cs) is))
grow_turn b c cs false is e ih = words_alone b (c ∷ cs) is e ∙ ap (λ n. front_at (b ∷ c ∷ cs) (suc n)) (sym (len_no is_word_byte c cs e)) ∙ ap (front_at (b ∷ c ∷ cs)) (sym (len_yes is_word_byte b (c ∷ cs) is))

-- the word at the front, and those behind it
word_front : (b : ℕ) (bs : Text) → is_word_byte b ≡ true → words (b ∷ bs) ≡ front_at (b ∷ bs) (prefix_len is_word_byte (b ∷ bs))
word_front b [] is = words_alone b [] is refl ∙ ap (front_at (b ∷ [])) (sym (len_yes is_word_byte b [] is))
word_front b (c ∷ cs) is = grow_turn b c cs _ is refl (word_front c cs)

first_passes : (p : ℕ → Bool) (b : ℕ) (bs : Text) (t : Bool) → p b ≡ t → 0 < prefix_len p (b ∷ bs) → p b ≡ true
first_passes p b bs true e h = e
first_passes p b bs false e h = absurd (let k : prefix_len p (b ∷ bs) ≡ 0 = len_no p b bs e in omega arith)

word_begins : (bs : Text) → 0 < prefix_len is_word_byte bs → words bs ≡ front_at bs (prefix_len is_word_byte bs)
word_begins [] h = absurd (omega arith)
word_begins (b ∷ bs) h = word_front b bs (first_passes is_word_byte b bs _ refl h)

no_word : (b : ℕ) (bs : Text) (t : Bool) → is_word_byte b ≡ t → is_blank b ≡ false → prefix_len is_word_byte (b ∷ bs) ≡ 0 → words (b ∷ bs) ≡ []
no_word b bs true e n h = absurd (let k : prefix_len is_word_byte (b ∷ bs) ≡ suc (prefix_len is_word_byte bs) = len_yes is_word_byte b bs e in omega arith)
no_word b bs false e n h = words_end b bs e n

no_words : (bs : Text) → (0 < length bs → is_blank (get_or bs 0 0) ≡ false) → prefix_len is_word_byte bs ≡ 0 → words bs ≡ []
no_words [] f h = words_nil
no_words (b ∷ bs) f h = no_word b bs _ refl (f (omega arith)) h

abbrev from_word : Text → Text
from_word bs = drop (prefix_len is_blank bs) bs

blank_stopped : (b : ℕ) (bs : Text) (t : Bool) → is_blank b ≡ t → (0 < length (from_word bs) → is_blank (get_or (from_word bs) 0 0) ≡ false)
    → 0 < length (from_word (b ∷ bs)) → is_blank (get_or (from_word (b ∷ bs)) 0 0) ≡ false
blank_stopped b bs true e ih = subst (λ n. 0 < length (drop n (b ∷ bs)) → is_blank (get_or (drop n (b ∷ bs)) 0 0) ≡ false) (sym (len_yes is_blank b bs e)) ih
blank_stopped b bs false e ih = subst (λ n. 0 < length (drop n (b ∷ bs)) → is_blank (get_or (drop n (b ∷ bs)) 0 0) ≡ false) (sym (len_no is_blank b bs e)) (λ h. e)

not_blank : (bs : Text) → 0 < length (from_word bs) → is_blank (get_or (from_word bs) 0 0) ≡ false
not_blank [] h = absurd (omega arith)
not_blank (b ∷ bs) h = blank_stopped b bs _ refl (not_blank bs) h

-- what a word takes from a line
pub words_cut : (bs r word after : Text) (k n : ℕ) → k ≡ prefix_len is_blank bs → r ≡ drop k bs → n ≡ prefix_len is_word_byte r → 0 < n → word ≡ take n r → after ≡ drop n r → words bs ≡ word ∷ words after
words_cut bs r word after k n gap behind is some front back =
    let e : r ≡ from_word bs = behind ∙ ap (λ k. drop k bs) gap in
    let begins : words r ≡ front_at r n = word_begins r (omega arith) ∙ ap (front_at r) (sym is) in
    words_skip bs ∙ ap words (sym e) ∙ begins ∙ ap (λ t. t ∷ words (drop n r)) (sym front) ∙ ap (λ t. word ∷ words t) (sym back)

pub words_over : (bs r : Text) (k n : ℕ) → k ≡ prefix_len is_blank bs → r ≡ drop k bs → n ≡ prefix_len is_word_byte r → n ≡ 0 → words bs ≡ []
words_over bs r k n gap behind is none =
    let e : r ≡ from_word bs = behind ∙ ap (λ k. drop k bs) gap in
    words_skip bs ∙ no_words (from_word bs) (not_blank bs) (ap (prefix_len is_word_byte) (sym e) ∙ sym is ∙ none)

-- ---- how many

attach_len : (b : ℕ) (ts : List Text) → length (attach b ts) ≤ length ts + 1
attach_len b [] = omega arith
attach_len b (t ∷ ts) = omega arith

words_step : (b : ℕ) (bs : Text) (w l k : Bool) → is_word_byte b ≡ w → in_word bs ≡ l → is_blank b ≡ k → length (words (b ∷ bs)) ≤ length (words bs) + 1
words_step b bs true true k e f g = rw (words_more b bs e f) (attach_len b (words bs))
words_step b bs true false k e f g = rw (words_alone b bs e f) (omega arith)
words_step b bs false l true e f g = rw (words_blank b bs g) (omega arith)
words_step b bs false l false e f g = rw (words_end b bs e g) (omega arith)

pub words_more_le : (b : ℕ) (bs : Text) → length (words (b ∷ bs)) ≤ length (words bs) + 1
words_more_le b bs = words_step b bs _ _ _ refl refl refl

-- a line has at most as many words as bytes
pub words_le : (bs : Text) → length (words bs) ≤ length bs
words_le [] = rw words_nil (omega arith)
words_le (b ∷ bs) = omega (arith, words_le bs, words_more_le b bs)

-- the number of words in some lines
abbrev pub total : List Text → ℕ
total [] = 0
total (l ∷ ls) = length (words l) + total ls

attach_total : (b : ℕ) (ts : List Text) → total (attach b ts) ≤ total ts + 1
attach_total b [] = omega (arith, words_le (b ∷ []))
attach_total b (t ∷ ts) = omega (arith, words_more_le b t)

lines_step : (b : ℕ) (bs : Text) (t : Bool) → is_line_byte b ≡ t → total (lines (b ∷ bs)) ≤ total (lines bs) + 1
unfolding lines
lines_step b bs true e = rw e (attach_total b (lines bs))
lines_step b bs false e = rw e (rw words_nil (omega arith))

pub total_le : (bs : Text) → total (lines bs) ≤ length bs
total_le [] = rw lines_nil (omega arith)
total_le (b ∷ bs) = omega (arith, total_le bs, lines_step b bs _ refl)
