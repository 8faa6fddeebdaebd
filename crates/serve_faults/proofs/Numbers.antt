-- The numbers that stand in the requests of a made session: each below a thousand.
use Rattle.std.proofs.Common.{◌≡◌, ℕ, zero, suc, ◌<◌, ◌≤◌, ◌⊎◌, inl, inr, Bool, true, ◌&&◌, nat_lt, nat_le, ◌∷◌, length, refl, ap, ◌∙◌, arith}
use Rattle.std.specs.Prelude.{decimal}
use Rattle.std.specs.Fmt.{digits}
use Rattle.std.proofs.lemmas.Bool.{cases_lt, ltb-true, leb-true, and_parts}
use Rattle.std.specs.List.{list_all}
use Rattle.text_lines.specs.Text.{Text, is_word_byte, is_line_byte}
use Rattle.text_lines.specs.Values.{is_value, value_of, is_symbol, number}

-- a test of all numbers below n
abbrev all_below : (ℕ → Bool) → ℕ → Bool
all_below test zero = true
all_below test (suc n) = test n && all_below test n

below : (test : ℕ → Bool) (n k : ℕ) → all_below test n ≡ true → k < n → test k ≡ true
below test zero k h l = absurd (omega arith)
below test (suc n) k h l = go (below test n k (and_parts (test n) (all_below test n) h).1) (cases_lt k n)
  where
    go : (k < n → test k ≡ true) → (k < n) ⊎ (n ≤ k) → test k ≡ true
    go rest (inl m) = rest m
    go rest (inr m) = let e : k ≡ n = omega arith in ap test e ∙ (and_parts (test n) (all_below test n) h).0

-- no line feed, and ASCII
abbrev pub is_plain_byte : ℕ → Bool
is_plain_byte b = is_line_byte b && nat_lt b 128

abbrev is_fine : Text → Bool
is_fine w = list_all is_word_byte w && (list_all is_plain_byte w && (nat_lt 0 (length w) && (nat_le (length w) 3 && is_value w)))

fine_below : all_below (λ k. is_fine (decimal k)) 1000 ≡ true
unfolding digits is_value value_of is_symbol number
fine_below = refl

user_below : all_below (λ k. is_value (117 ∷ decimal k)) 100 ≡ true
unfolding digits is_value value_of is_symbol number
user_below = refl

pub record IsNumber (w : Text) : Type 0 where
  pub word : list_all is_word_byte w ≡ true
  pub plain : list_all is_plain_byte w ≡ true
  pub some : 0 < length w
  pub short : length w ≤ 3
  pub value : is_value w ≡ true

number_of : (w : Text) → is_fine w ≡ true → IsNumber w
number_of w h =
    let a = (and_parts (list_all is_word_byte w) _ h).1 in
    let b = (and_parts (list_all is_plain_byte w) _ a).1 in
    let c = (and_parts (nat_lt 0 (length w)) _ b).1 in
    record {
      word = (and_parts (list_all is_word_byte w) _ h).0;
      plain = (and_parts (list_all is_plain_byte w) _ a).0;
      some = ltb-true 0 (length w) (and_parts (nat_lt 0 (length w)) _ b).0;
      short = leb-true (length w) 3 (and_parts (nat_le (length w) 3) _ c).0;
      value = (and_parts (nat_le (length w) 3) (is_value w) c).1;
    }

pub small_number : (k : ℕ) → k < 1000 → IsNumber (decimal k)
small_number k l = number_of (decimal k) (below (λ n. is_fine (decimal n)) 1000 k fine_below l)

pub user_value : (k : ℕ) → k < 100 → is_value (117 ∷ decimal k) ≡ true
user_value k l = below (λ n. is_value (117 ∷ decimal n)) 100 k user_below l
