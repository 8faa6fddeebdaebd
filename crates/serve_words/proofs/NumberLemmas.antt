-- What `parse` says of a number.
use Rattle.std.proofs.Common.{◌≡◌, ◌≢◌, ℕ, ◌^◌, ◌<◌, ◌≤◌, Bool, true, false, cond, ◌&&◌, nat_le, List, [], ◌∷◌, length, get_or, Option, Some, None, Result, Ok, Err, refl, sym, ap, ◌∙◌, arith}
use Rattle.std.proofs.lemmas.Bool.Decides.{nat_tests}
use Rattle.std.specs.Result.{OkIff, result_ok}
use Rattle.std.specs.Str.{all_ascii_digits}
use Rattle.std.specs.Str.Parse.{ParsesUnsigned}
use Rattle.std.proofs.lemmas.Str.Parse.{parse_plain}
use Rattle.text_lines.specs.Values.{number_from}
use Rattle.text_lines.proofs.NumberLemmas.{numerals}
use Rattle.serve_words.specs.Numbers.{size_of, is_number, number}

-- what `parse` asks of a text that doesn't begin with a plus
abbrev Reads : List ℕ → Type 0
Reads w = (all_ascii_digits w ≡ true) × (0 < length w) × (number_from 0 w < 2 ^ 32)

abbrev test : List ℕ → Bool
test w = is_number w && nat_le (size_of w) 4294967295

reads_true : (w : List ℕ) → (get_or w 0 0 ≡ 48 → length w ≤ 1) → Reads w → test w ≡ true
reads_true w zeros r = grind (arith, nat_tests, r.0, r.1, r.2)

reads_holds : (w : List ℕ) → test w ≡ true → Reads w
reads_holds w e = grind (arith, nat_tests)

abbrev by_test : Bool → ℕ → Option ℕ
by_test t n = cond t (Some n) None

gives_none : (w : List ℕ) (t : Bool) → test w ≡ t → (Reads w → ⊥) → by_test (test w) (size_of w) ≡ None
gives_none w true e h = absurd (h (reads_holds w e))
gives_none w false e h = ap (λ t. by_test t (size_of w)) e

gives : {E : Type 0} (w : List ℕ) (r : Result ℕ E) → (get_or w 0 0 ≡ 48 → length w ≤ 1) → OkIff r (Reads w) (size_of w) → by_test (test w) (size_of w) ≡ result_ok r
gives w (Ok x) zeros h = ap (λ t. by_test t (size_of w)) (reads_true w zeros h.0) ∙ ap Some (sym h.1)
gives w (Err e) zeros h = gives_none w _ refl h

-- what `parse` gives where neither a plus nor a leading zero stands first
pub parsed : {E : Type 0} (w : List ℕ) (r : Result ℕ E) → get_or w 0 0 ≢ 43 → (get_or w 0 0 ≡ 48 → length w ≤ 1) → ParsesUnsigned 32 10 w r → number w ≡ result_ok r
unfolding number
parsed w r plus zeros h = gives w r zeros (parse_plain numerals 32 w r h plus)

plus_none : (w : List ℕ) (t : Bool) → test w ≡ t → get_or w 0 0 ≡ 43 → t ≡ false
plus_none w false e h = refl
plus_none [] true e h = absurd (omega (arith, (reads_holds [] e).1))
plus_none (b ∷ bs) true e h = let k = (reads_holds (b ∷ bs) e).0 in absurd (grind (arith, nat_tests, k))

-- a plus begins no number, nor does a leading zero
pub number_plus : (w : List ℕ) → get_or w 0 0 ≡ 43 → number w ≡ None
unfolding number
number_plus w h = ap (λ t. by_test t (size_of w)) (plus_none w _ refl h)

zero_none : (w : List ℕ) → get_or w 0 0 ≡ 48 → 1 < length w → test w ≡ false
zero_none w h long = grind (arith, nat_tests)

pub number_zero : (w : List ℕ) → get_or w 0 0 ≡ 48 → 1 < length w → number w ≡ None
unfolding number
number_zero w h long = ap (λ t. by_test t (size_of w)) (zero_none w h long)
