-- A word of a few digits in front of a line.
use Rattle.std.proofs.Common.{◌≡◌, ℕ, zero, suc, ◌<◌, ◌≤◌, true, false, [], ◌∷◌, length, take, get_or, Some, None, cond, refl, sym, ap, ◌∙◌, arith, List, to_z, w64}
use Rattle.std.proofs.lemmas.Int.{to_z_pos}
use Rattle.std.proofs.lemmas.Bool.Decides.{nat_tests}
use Rattle.std.proofs.lemmas.Bool.{and_parts, true≢false}
use Rattle.std.specs.Char.{is_ascii_alphabetic, is_ascii_digit}
use Rattle.std.specs.List.{prefix_len}
use Rattle.std.specs.Str.{all_ascii_digits}
use Rattle.text_lines.specs.Leading.{IsLeading}
use Rattle.text_lines.specs.Text.{Text, is_word_byte}
use Rattle.session_values.specs.declared.value.Value.TheVariants.{Num}
use Rattle.text_lines.specs.Values.{as_value, number, number_from, placed, value_of}
use Rattle.text_lines.proofs.NumberLemmas.{counted, few_number}
use Rattle.text_lines.proofs.ValueLemmas.{none_placed, number_only}
use Rattle.text_lines.proofs.DigitLemmas.{ten_to, ten_most}
use Rattle.text_lines.proofs.TextLemmas.{len_yes, len_no}

digit_in_word : (b : ℕ) → is_ascii_digit b ≡ true → is_word_byte b ≡ true
digit_in_word b h = grind (arith, nat_tests, h)

-- digits, and then a byte that ends a word
pub run_stopped : (bs : Text) (k b : ℕ) → k < length bs → b ≡ get_or bs k 0 → all_ascii_digits (take k bs) ≡ true → is_word_byte b ≡ false → k ≡ prefix_len is_word_byte bs
run_stopped [] k b l e a h = absurd (omega (arith, l))
run_stopped (d ∷ ds) zero b l e a h = sym (len_no is_word_byte d ds (ap is_word_byte (sym e) ∙ h))
run_stopped (d ∷ ds) (suc k) b l e a h =
    let parts = and_parts (is_ascii_digit d) (all_ascii_digits (take k ds)) a in
    ap suc (run_stopped ds k b (omega (arith, l)) e parts.1 h) ∙ sym (len_yes is_word_byte d ds (digit_in_word d parts.0))

-- digits, and then a byte of the word
run_on : (bs : Text) (k b : ℕ) → k < length bs → b ≡ get_or bs k 0 → all_ascii_digits (take k bs) ≡ true → is_word_byte b ≡ true → k < prefix_len is_word_byte bs
run_on [] k b l e a h = absurd (omega (arith, l))
run_on (d ∷ ds) zero b l e a h = omega (arith, len_yes is_word_byte d ds (ap is_word_byte (sym e) ∙ h))
run_on (d ∷ ds) (suc k) b l e a h =
    let parts = and_parts (is_ascii_digit d) (all_ascii_digits (take k ds)) a in
    omega (arith, run_on ds k b (omega (arith, l)) e parts.1 h, len_yes is_word_byte d ds (digit_in_word d parts.0))

-- each byte of digits is one
digit_at : (ds : Text) (k m b : ℕ) → k < m → k < length ds → b ≡ get_or ds k 0 → all_ascii_digits (take m ds) ≡ true → is_ascii_digit b ≡ true
digit_at [] k m b l s e a = absurd (omega (arith, s))
digit_at (d ∷ ds) k zero b l s e a = absurd (omega (arith, l))
digit_at (d ∷ ds) zero (suc m) b l s e a = ap is_ascii_digit e ∙ (and_parts (is_ascii_digit d) (all_ascii_digits (take m ds)) a).0
digit_at (d ∷ ds) (suc k) (suc m) b l s e a = digit_at ds k m b (omega (arith, l)) (omega (arith, s)) e (and_parts (is_ascii_digit d) (all_ascii_digits (take m ds)) a).1

-- a byte of the word that is no digit: it isn't digits alone
pub no_digits : (bs : Text) (i b : ℕ) → i < length bs → b ≡ get_or bs i 0 → all_ascii_digits (take i bs) ≡ true → is_ascii_digit b ≡ false → is_word_byte b ≡ true → (n k : ℕ) → IsLeading bs n k → 18 < k
no_digits bs i b l e a none h n k x =
    absurd (true≢false (sym (digit_at bs i k b (omega (arith, x.len, run_on bs i b l e a h)) l e x.digits) ∙ none))

-- a digit after 18 of them: they aren't few
pub many_digits : (bs : Text) (i b : ℕ) → i < length bs → b ≡ get_or bs i 0 → all_ascii_digits (take i bs) ≡ true → is_ascii_digit b ≡ true → 18 ≤ i → (n k : ℕ) → IsLeading bs n k → 18 < k
many_digits bs i b l e a digit many n k x = omega (arith, many, x.len, run_on bs i b l e a (digit_in_word b digit))

-- where no word is in front, it is found: so a word is in front if none of few digits is
pub some_word : (bs : Text) → ((n k : ℕ) → IsLeading bs n k → 18 < k) → 0 < prefix_len is_word_byte bs
some_word bs f = go (prefix_len is_word_byte bs) refl
  where
    go : (m : ℕ) → m ≡ prefix_len is_word_byte bs → 0 < m
    go zero e = absurd (omega (arith, f 0 0 (record { len = e; digits = refl; number = refl; small = omega arith })))
    go (suc m) e = omega arith

-- digits up to the end
pub run_whole : (bs : Text) (k : ℕ) → k ≡ length bs → all_ascii_digits (take k bs) ≡ true → k ≡ prefix_len is_word_byte bs
run_whole [] zero e a = refl
run_whole [] (suc k) e a = absurd (omega (arith, e))
run_whole (d ∷ ds) zero e a = absurd (omega (arith, e))
run_whole (d ∷ ds) (suc k) e a =
    let parts = and_parts (is_ascii_digit d) (all_ascii_digits (take k ds)) a in
    ap suc (run_whole ds k (omega (arith, e)) parts.1) ∙ sym (len_yes is_word_byte d ds (digit_in_word d parts.0))

-- what was read so far is the word in front, where it ends here
pub leading : (bs : Text) (n k i : ℕ) → k ≡ i → n ≡ number_from 0 (take i bs) → all_ascii_digits (take i bs) ≡ true → n < ten_to i → i ≤ 18 → i ≡ prefix_len is_word_byte bs → IsLeading bs n k
leading bs n k i e is a s few ends = record {
  len = e ∙ ends;
  digits = ap (λ m. all_ascii_digits (take m bs)) e ∙ a;
  number = is ∙ ap (λ m. number_from 0 (take m bs)) (sym e);
  small = omega (arith, s, ten_most i few);
}

first_digit : (w : Text) → 0 < length w → all_ascii_digits w ≡ true → is_ascii_digit (get_or w 0 0) ≡ true
first_digit [] l a = absurd (omega (arith, l))
first_digit (b ∷ bs) l a = (and_parts (is_ascii_digit b) (all_ascii_digits bs) a).0

digit_no_letter : (b : ℕ) → is_ascii_digit b ≡ true → is_ascii_alphabetic b ≡ false
digit_no_letter b h = grind (arith, nat_tests, h)

-- such a word has its number as its value, and places no name
pub record IsFew (names : List Text) (w : Text) (n : ℕ) : Type 0 where
  pub value : Some (Num (to_z w64 n)) ≡ value_of names w
  pub kept : names ≡ placed names w

few_digits : (names : List Text) (w : Text) (n : ℕ) → 0 < length w → all_ascii_digits w ≡ true → n ≡ number_from 0 w → n < 1000000000000000000 → IsFew names w n
few_digits names w n l a is small =
    let digit : is_ascii_digit (get_or w 0 0) ≡ true = first_digit w l a in
    let letter : is_ascii_alphabetic (get_or w 0 0) ≡ false = digit_no_letter (get_or w 0 0) digit in
    let all : Some n ≡ cond (all_ascii_digits w) (Some (number_from 0 w)) None = ap Some is ∙ sym (ap (λ t. cond t (Some (number_from 0 w)) None) a) in
    let number_is : number w ≡ counted (Some n) = few_number w (Some n) digit all small in
    record {
      value = ap (λ z. Some (Num z)) (to_z_pos w64 n (omega (arith, small))) ∙ sym (number_only names w letter ∙ ap as_value number_is);
      kept = sym (none_placed names w letter);
    }

pub few_value : (names : List Text) (bs rest w : Text) (n k : ℕ) → IsLeading bs n k → bs ≡ rest → w ≡ take k rest → 0 < length w → IsFew names w n
few_value names bs rest w n k h e front l =
    let is : w ≡ take k bs = front ∙ ap (take k) (sym e) in
    few_digits names w n l (ap all_ascii_digits is ∙ h.digits) (h.number ∙ ap (number_from 0) (sym is)) h.small
