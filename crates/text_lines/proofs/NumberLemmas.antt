-- What `parse` says of a number.
use Rattle.std.proofs.Common.{◌≡◌, ◌≢◌, ℕ, ◌-◌, ◌^◌, ◌<◌, ◌≤◌, Bool, true, false, cond, ◌&&◌, ◌==◌, nat_lt, nat_le, [], ◌∷◌, length, drop, get_or, Option, Some, None, Result, Ok, Err, refl, sym, ap, ◌∙◌, subst, rules, arith, ℤ, pos, neg_ℤ}
use Rattle.std.specs.Prelude.{IfSome}
use Rattle.std.specs.Char.{is_ascii_digit}
use Rattle.std.proofs.lemmas.Bool.Decides.{nat_tests}
use Rattle.std.specs.Result.{OkIff, result_ok}
use Rattle.std.specs.Str.{all_ascii_digits}
use Rattle.std.specs.Str.Parse.{ParsesSigned}
use Rattle.std.proofs.lemmas.Str.Parse.{IsNumeralModel, numerals_by_fold, parse_signed_plain, parse_signed_minus}
use Rattle.std.proofs.lemmas.Bool.{true≢false}
use Rattle.std.specs.Int.{w64}
use Rattle.text_lines.specs.Text.{Text}
use Rattle.text_lines.specs.Values.{has_minus, number_from, number}

-- digits are read as the kit reads them
pub numerals : IsNumeralModel (λ ds. all_ascii_digits ds ≡ true) (number_from 0)
numerals = numerals_by_fold _ (search rules) number_from (search rules)

abbrev Reads : Text → ℕ → Type 0
Reads ds most = (all_ascii_digits ds ≡ true) × (0 < length ds) × (number_from 0 ds ≤ most)

abbrev reads : Text → ℕ → Bool
reads ds most = nat_lt 0 (length ds) && all_ascii_digits ds && nat_le (number_from 0 ds) most

reads_true : (ds : Text) (most : ℕ) → Reads ds most → reads ds most ≡ true
reads_true ds most r = grind (arith, nat_tests, r.0, r.1, r.2)

reads_holds : (ds : Text) (most : ℕ) → reads ds most ≡ true → Reads ds most
reads_holds ds most e = grind (arith, nat_tests)

abbrev by_test : Bool → ℤ → Option ℤ
by_test t z = cond t (Some z) None

gives_none : (ds : Text) (most : ℕ) (z : ℤ) (t : Bool) → reads ds most ≡ t → (Reads ds most → ⊥) → by_test (reads ds most) z ≡ None
gives_none ds most z true e h = absurd (h (reads_holds ds most e))
gives_none ds most z false e h = ap (λ t. by_test t z) e

gives : {E : Type 0} (ds : Text) (most : ℕ) (z : ℤ) (r : Result ℤ E) → OkIff r (Reads ds most) z → by_test (reads ds most) z ≡ result_ok r
gives ds most z (Ok x) h = ap (λ t. by_test t z) (reads_true ds most h.0) ∙ ap Some (sym h.1)
gives ds most z (Err e) h = gives_none ds most z _ refl h

-- the definition, with the test for the minus as an argument
abbrev by_minus : Text → Bool → Option ℤ
by_minus w m = by_test (reads (cond m (drop 1 w) w) (cond m (2 ^ 63) (2 ^ 63 - 1)))
    (cond m (neg_ℤ (pos (number_from 0 (cond m (drop 1 w) w)))) (pos (number_from 0 (cond m (drop 1 w) w))))

number_by : (w : Text) (m : Bool) → has_minus w ≡ m → number w ≡ by_minus w m
unfolding number
number_by w m e = ap (by_minus w) e

below_limit : (n : ℕ) → n < 2 ^ 63 → n ≤ 2 ^ 63 - 1
below_limit n h = omega arith

limit_below : (n : ℕ) → n ≤ 2 ^ 63 - 1 → n < 2 ^ 63
limit_below n h = omega arith

OkIff-same : {E : Type 0} (P Q : Type 0) (z : ℤ) (r : Result ℤ E) → (P → Q) → (Q → P) → OkIff r P z → OkIff r Q z
OkIff-same P Q z (Ok x) f g h = (f h.0, h.1)
OkIff-same P Q z (Err e) f g h = λ q. h (g q)

-- what `parse` gives where no plus stands first
pub parsed : {E : Type 0} (w : Text) (r : Result ℤ E) (m : Bool) → has_minus w ≡ m → get_or w 0 0 ≢ 43 → ParsesSigned w64 10 w r → number w ≡ result_ok r
parsed w r true e plus h =
    let minus : get_or w 0 0 ≡ 45 = grind (arith, nat_tests) in
    number_by w true e ∙ gives (drop 1 w) (2 ^ 63) _ r (parse_signed_minus numerals w64 w r h minus)
parsed w r false e plus h =
    let minus : get_or w 0 0 ≢ 45 = λ k. grind (arith, nat_tests) in
    number_by w false e ∙ gives w (2 ^ 63 - 1) _ r
    (OkIff-same _ _ _ r (λ p. (p.0, p.1, below_limit _ p.2)) (λ p. (p.0, p.1, limit_below _ p.2)) (parse_signed_plain numerals w64 w r h plus minus))

plus_none : (w : Text) (t : Bool) → reads w (2 ^ 63 - 1) ≡ t → get_or w 0 0 ≡ 43 → t ≡ false
plus_none w false e h = refl
plus_none [] true e h = absurd (omega arith)
plus_none (b ∷ bs) true e h =
    let k = (reads_holds (b ∷ bs) (2 ^ 63 - 1) e).0 in absurd (grind (arith, nat_tests, k))

-- a plus begins no number
pub number_plus : (w : Text) → get_or w 0 0 ≡ 43 → number w ≡ None
number_plus w h =
    let e : has_minus w ≡ false = ap (λ b. b == 45) h in
    number_by w false e ∙ ap (λ t. by_test t (pos (number_from 0 w))) (plus_none w _ refl h)

-- ---- a word that begins with a digit and is short

abbrev pub counted : Option ℕ → Option ℤ
counted None = None
counted (Some n) = Some (pos n)

digit_first : (w : Text) → is_ascii_digit (get_or w 0 0) ≡ true → (has_minus w ≡ false) × (0 < length w)
digit_first [] h = absurd (grind (arith, nat_tests, h))
digit_first (b ∷ bs) h = (grind (arith, nat_tests, h), omega arith)

by_digits : (w : Text) (t : Bool) → all_ascii_digits w ≡ t → 0 < length w → (t ≡ true → number_from 0 w < 1000000000000000000) → by_test (reads w (2 ^ 63 - 1)) (pos (number_from 0 w)) ≡ counted (cond t (Some (number_from 0 w)) None)
by_digits w true e l small = ap (λ t. by_test t (pos (number_from 0 w))) (reads_true w (2 ^ 63 - 1) (e, l, omega (arith, small refl)))
by_digits w false e l small = gives_none w (2 ^ 63 - 1) (pos (number_from 0 w)) (reads w (2 ^ 63 - 1)) refl (λ r. true≢false (sym r.0 ∙ e))

-- a few digits are read in one go
pub few_number : (w : Text) (o : Option ℕ) → is_ascii_digit (get_or w 0 0) ≡ true → o ≡ cond (all_ascii_digits w) (Some (number_from 0 w)) None → IfSome o (λ n. n < 1000000000000000000) → number w ≡ counted o
few_number w o h is small =
    let d : (has_minus w ≡ false) × (0 < length w) = digit_first w h in
    number_by w false d.0 ∙ by_digits w (all_ascii_digits w) refl d.1 (λ e. below o (number_from 0 w) (is ∙ ap (λ t. cond t (Some (number_from 0 w)) None) e) small) ∙ ap counted (sym is)
  where
    below : (o : Option ℕ) (n : ℕ) → o ≡ Some n → IfSome o (λ m. m < 1000000000000000000) → n < 1000000000000000000
    below o n e s = subst (λ p. IfSome p (λ m. m < 1000000000000000000)) e s
