-- The number that the first digits of a list say.
use Rattle.std.proofs.Common.{◌≡◌, ℕ, zero, suc, ◌+◌, ◌-◌, ◌*◌, ◌<◌, ◌≤◌, true, false, [], ◌∷◌, length, take, get_or, Some, None, cond, refl, sym, ap, ◌∙◌, subst, arith, le_refl}
use Rattle.std.proofs.lemmas.Bool.Decides.{nat_tests}
use Rattle.std.proofs.lemmas.List.{take_all}
use Rattle.std.proofs.lemmas.Bool.{and_from, and_left, and_right, and_parts}
use Rattle.std.specs.Char.{is_ascii_digit}
use Rattle.std.specs.Str.{all_ascii_digits}
use Rattle.text_lines.specs.Text.{Text}
use Rattle.text_lines.specs.Values.{number_from}

-- ten to a power
abbrev pub ten_to : ℕ → ℕ
ten_to zero = 1
ten_to (suc i) = 10 * ten_to i

ten_up : (i j k : ℕ) → i + j ≡ k → ten_to i ≤ ten_to k
ten_up i zero k e = subst (λ n. ten_to i ≤ ten_to n) (same i k e) (le_refl (ten_to i))
  where
    same : (i k : ℕ) → i + 0 ≡ k → i ≡ k
    same i k e = omega (arith, e)
ten_up i (suc j) zero e = absurd (omega (arith, e))
ten_up i (suc j) (suc k) e = omega (arith, ten_up i j k (omega (arith, e)))

pub ten_most : (i : ℕ) → i ≤ 18 → ten_to i ≤ 1000000000000000000
ten_most i l = ten_up i (18 - i) 18 (omega (arith, l))

pub digit_few : (b : ℕ) → is_ascii_digit b ≡ true → b - 48 ≤ 9
digit_few b h = grind (arith, nat_tests, h)

pub number_step : (n : ℕ) (ds : Text) (k b : ℕ) → k < length ds → b ≡ get_or ds k 0 → number_from n (take (suc k) ds) ≡ number_from n (take k ds) * 10 + (b - 48)
number_step n [] k b l e = absurd (omega (arith, l))
number_step n (d ∷ ds) zero b l e = ap (λ c. n * 10 + (c - 48)) (sym e)
number_step n (d ∷ ds) (suc k) b l e = number_step (n * 10 + (d - 48)) ds k b (omega (arith, l)) e

pub digits_step : (ds : Text) (k b : ℕ) → k < length ds → b ≡ get_or ds k 0 → all_ascii_digits (take k ds) ≡ true → is_ascii_digit b ≡ true → all_ascii_digits (take (suc k) ds) ≡ true
digits_step [] k b l e a h = absurd (omega (arith, l))
digits_step (d ∷ ds) zero b l e a h = and_from (is_ascii_digit d) true (ap is_ascii_digit (sym e) ∙ h) refl
digits_step (d ∷ ds) (suc k) b l e a h = and_from (is_ascii_digit d) (all_ascii_digits (take (suc k) ds)) (and_parts (is_ascii_digit d) (all_ascii_digits (take k ds)) a).0 (digits_step ds k b (omega (arith, l)) e (and_parts (is_ascii_digit d) (all_ascii_digits (take k ds)) a).1 h)

pub digits_fail : (ds : Text) (k b : ℕ) → k < length ds → b ≡ get_or ds k 0 → is_ascii_digit b ≡ false → all_ascii_digits ds ≡ false
digits_fail [] k b l e h = absurd (omega (arith, l))
digits_fail (d ∷ ds) zero b l e h = and_left (is_ascii_digit d) (all_ascii_digits ds) (ap is_ascii_digit (sym e) ∙ h)
digits_fail (d ∷ ds) (suc k) b l e h = and_right (is_ascii_digit d) (all_ascii_digits ds) (digits_fail ds k b (omega (arith, l)) e h)

-- one digit more
pub record Longer (ds : Text) (k b n : ℕ) : Type 0 where
  pub number : n * 10 + (b - 48) ≡ number_from 0 (take (k + 1) ds)
  pub digits : all_ascii_digits (take (k + 1) ds) ≡ true
  pub small : n * 10 + (b - 48) < ten_to (k + 1)

pub longer : (ds : Text) (k b n : ℕ) → k < length ds → b ≡ get_or ds k 0 → is_ascii_digit b ≡ true → n ≡ number_from 0 (take k ds) → all_ascii_digits (take k ds) ≡ true → n < ten_to k → Longer ds k b n
longer ds k b n l e h is a s =
    let up : suc k ≡ k + 1 = omega arith in
    record {
      number = ap (λ m. m * 10 + (b - 48)) is ∙ sym (number_step 0 ds k b l e) ∙ ap (λ m. number_from 0 (take m ds)) up;
      digits = subst (λ m. all_ascii_digits (take m ds) ≡ true) up (digits_step ds k b l e a h);
      small = subst (λ m. n * 10 + (b - 48) < ten_to m) up (omega (arith, digit_few b h, s));
    }

-- so few digits stay within 64 bits
pub few_at : (k b n : ℕ) → k < 18 → is_ascii_digit b ≡ true → n < ten_to k → n * 10 + (b - 48) < 1000000000000000000
few_at k b n l h s =
    let up : n * 10 + (b - 48) < ten_to (suc k) = omega (arith, digit_few b h, s) in
    omega (arith, up, ten_most (suc k) (omega (arith, l)))

pub few_here : (ds : Text) (k b n : ℕ) → k < length ds → length ds ≤ 18 → is_ascii_digit b ≡ true → n < ten_to k → n * 10 + (b - 48) < 1000000000000000000
few_here ds k b n l few h s = few_at k b n (omega (arith, l, few)) h s

-- the number of all digits
pub whole : (ds : Text) (k n : ℕ) → length ds ≤ k → n ≡ number_from 0 (take k ds) → all_ascii_digits (take k ds) ≡ true → Some n ≡ cond (all_ascii_digits ds) (Some (number_from 0 ds)) None
whole ds k n l is a =
    let all : take k ds ≡ ds = take_all k ds l in
    ap Some (is ∙ ap (number_from 0) all) ∙ ap (λ t. cond t (Some (number_from 0 ds)) None) (sym (ap all_ascii_digits (sym all) ∙ a))
