-- A number that is written is read as this number.
use Rattle.std.proofs.Common.{◌≡◌, ◌==◌, ℕ, suc, ◌-◌, ◌^◌, ◌<◌, ◌≤◌, Bool, true, false, cond, ◌&&◌, nat_lt, nat_le, [], ◌∷◌, length, drop, codes, Option, Some, None, refl, ap, ◌∙◌, arith, ℤ, pos, negsuc, neg_ℤ, slice_index}
use Rattle.std.proofs.lemmas.Bool.Decides.{nat_tests}
use Rattle.std.proofs.lemmas.Fmt.{digits_decimal, digits_value-decimal, decimal_nonempty}
use Rattle.std.specs.Char.{is_ascii_alphabetic}
use Rattle.std.specs.Fmt.{decimal, signed_decimal}
use Rattle.std.specs.Str.{all_ascii_digits, bytes_eq}
use Rattle.session_values.specs.declared.value.Value.TheVariants.{Num}
use Rattle.session_values.specs.Values.{IsValue}
use Rattle.text_lines.specs.Text.{Text}
use Rattle.text_lines.specs.Values.{has_minus, is_nil, number_from, number}
use Rattle.text_lines.proofs.NumberLemmas.{numerals}

abbrev reads : Text → ℕ → Bool
reads ds most = nat_lt 0 (length ds) && all_ascii_digits ds && nat_le (number_from 0 ds) most

abbrev by_test : Bool → ℤ → Option ℤ
by_test t z = cond t (Some z) None

-- the definition, with the test for the minus as an argument
abbrev by_minus : Text → Bool → Option ℤ
by_minus w m = by_test (reads (cond m (drop 1 w) w) (cond m (2 ^ 63) (2 ^ 63 - 1)))
    (cond m (neg_ℤ (pos (number_from 0 (cond m (drop 1 w) w)))) (pos (number_from 0 (cond m (drop 1 w) w))))

number_by : (w : Text) (m : Bool) → has_minus w ≡ m → number w ≡ by_minus w m
unfolding number
number_by w m e = ap (by_minus w) e

reads_true : (ds : Text) (most : ℕ) → all_ascii_digits ds ≡ true → 0 < length ds → number_from 0 ds ≤ most → reads ds most ≡ true
reads_true ds most a b c = grind (arith, nat_tests, a, b, c)

-- a text of digits begins with one
record Starts (w : Text) : Type 0 where
  minus : has_minus w ≡ false
  letter : is_ascii_alphabetic (slice_index w 0) ≡ false
  quote : (slice_index w 0 == 39) ≡ false
  nil : is_nil w ≡ false

starts : (w : Text) → all_ascii_digits w ≡ true → 0 < length w → Starts w
starts [] a l = absurd (omega arith)
starts (b ∷ bs) a l =
    let other : (b == 110) ≡ false = grind (arith, nat_tests, a) in
    record { minus = grind (arith, nat_tests, a); letter = grind (arith, nat_tests, a); quote = grind (arith, nat_tests, a); nil = ap (λ (x : Bool). x && bytes_eq bs (codes "il")) other }

digits_start : (n : ℕ) → n < 2 ^ 64 → Starts (decimal n)
digits_start n h = starts (decimal n) (digits_decimal numerals n h) (decimal_nonempty n h)

pub number_back : (z : ℤ) → IsValue (Num z) → number (signed_decimal z) ≡ Some z
number_back (pos n) h =
    let small : n < 2 ^ 64 = omega (arith, h) in
    let v : number_from 0 (decimal n) ≡ n = digits_value-decimal numerals n small in
    number_by (decimal n) false (digits_start n small).minus
    ∙ ap (λ t. by_test t (pos (number_from 0 (decimal n)))) (reads_true (decimal n) (2 ^ 63 - 1) (digits_decimal numerals n small) (decimal_nonempty n small) (omega (arith, v, h)))
    ∙ ap (λ (m : ℕ). Some (pos m)) v
number_back (negsuc n) h =
    let small : suc n < 2 ^ 64 = omega (arith, h) in
    let v : number_from 0 (decimal (suc n)) ≡ suc n = digits_value-decimal numerals (suc n) small in
    number_by (45 ∷ decimal (suc n)) true refl
    ∙ ap (λ t. by_test t (neg_ℤ (pos (number_from 0 (decimal (suc n)))))) (reads_true (decimal (suc n)) (2 ^ 63) (digits_decimal numerals (suc n) small) (decimal_nonempty (suc n) small) (omega (arith, v, h)))
    ∙ ap (λ (m : ℕ). Some (neg_ℤ (pos m))) v

-- what is written of a number begins with no letter and no quote, and isn't `nil`
pub record Numeral (w : Text) : Type 0 where
  pub letter : is_ascii_alphabetic (slice_index w 0) ≡ false
  pub quote : (slice_index w 0 == 39) ≡ false
  pub nil : is_nil w ≡ false

pub numeral : (z : ℤ) → IsValue (Num z) → Numeral (signed_decimal z)
numeral (pos n) h = let d = digits_start n (omega (arith, h)) in record { letter = d.letter; quote = d.quote; nil = d.nil }
numeral (negsuc n) h = record { letter = refl; quote = refl; nil = refl }
