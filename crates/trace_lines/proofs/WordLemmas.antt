-- What single words say.
use Rattle.std.proofs.Common.{SFits, to_z, of_z, w64, ◌≡◌, ◌≢◌, ℕ, ℤ, pos, neg_ℤ, zero, suc, ◌+◌, ◌-◌, ◌<◌, ◌≤◌, ◌^◌, ◌&&◌, Bool, true, false, not, cond, eqb, nat_le, nat_lt, List, [], ◌∷◌, length, drop, get_or, slice_get, Option, Some, None, Result, Ok, Err, refl, sym, ap, ◌∙◌, subst, arith}
use Rattle.std.proofs.lemmas.Bool.Decides.{nat_tests}
use Rattle.std.proofs.lemmas.Fmt.{decimal-digits_value, decimal_digit, decimal_nonempty, digits_decimal, first_decimal}
use Rattle.std.proofs.lemmas.Int.{to_z-of_z}
use Rattle.std.proofs.lemmas.List.Sums.{prefix_len-le-length}
use Rattle.std.proofs.lemmas.Slice.Eq.{bytes_eq-Decides}
use Rattle.std.proofs.lemmas.Bool.{and_parts}
use Rattle.std.specs.Char.{is_ascii_digit}
use Rattle.std.specs.Fmt.{decimal}
use Rattle.std.specs.List.{position_or_len}
use Rattle.std.specs.Option.{unwrap_or}
use Rattle.std.specs.Int.{FitsUnsignedBits}
use Rattle.std.specs.Prelude.{◌==◌, slice_index, unsigned_abs}
use Rattle.std.specs.Result.{OkIff, result_ok}
use Rattle.std.specs.Str.{all_ascii_digits, bytes_eq}
use Rattle.session_values.specs.Names.{place_of}
use Rattle.session_values.proofs.Numbers.{past_first, past_on, here_first, here_on}
use Rattle.text_lines.specs.Text.{Text}
use Rattle.text_lines.specs.Values.{has_minus, number_from, number}
use Rattle.text_lines.proofs.NumberLemmas.{numerals}
use Rattle.trace_lines.specs.EventRows.{placed_literal, placed_symbol}
use Rattle.trace_lines.specs.EventWords.{small_number, table_names}
use Rattle.trace_lines.specs.Placing.{place_if_symbol, symbol_place}

-- ---- the quote of a literal
no_quote : (w : Text) → ((t : Text) → w ≢ 39 ∷ t) → (slice_index w 0 == 39) ≡ false
no_quote [] f = refl
no_quote (b ∷ bs) f = go (eqb b 39) refl
  where
    same : (x : ℕ) → eqb x 39 ≡ true → x ≡ 39
    same x e = grind (arith, nat_tests)

    go : (t : Bool) → eqb b 39 ≡ t → eqb b 39 ≡ false
    go true e = absurd (f bs (ap (λ (x : ℕ). x ∷ bs) (same b e)))
    go false e = e

pub plain_placed : (names : List Text) (w : Text) → ((t : Text) → w ≢ 39 ∷ t) → placed_literal names w ≡ names
unfolding placed_literal
plain_placed names w f = ap (λ (b : Bool). cond b (placed_symbol names (drop 1 w)) names) (no_quote w f)

pub plain_symbol : (names : List Text) (w : Text) → ((t : Text) → w ≢ 39 ∷ t) → None ≡ symbol_place names w
plain_symbol names w f = sym (ap (λ (b : Bool). cond b (place_if_symbol names (drop 1 w)) None) (no_quote w f))

pub quoted_placed : (names : List Text) (w t : Text) → w ≡ 39 ∷ t → placed_literal names w ≡ placed_symbol names t
unfolding placed_literal
quoted_placed names w t e = ap (placed_literal names) e

-- ---- small numbers
-- what `parse` asks of a text that doesn't begin with a plus
abbrev Reads : Text → Type 0
Reads w = (all_ascii_digits w ≡ true) × (0 < length w) × (number_from 0 w < 2 ^ 32)

abbrev by_test : Bool → ℕ → Option ℕ
by_test t n = cond t (Some n) None

small_by : (w : Text) → nat_le (number_from 0 w) 4294967295 ≡ true → number_from 0 w < 2 ^ 32
small_by w e = grind (arith, nat_tests)

reads_by : (w : Text) (n : ℕ) → w ≡ decimal n → n < 2 ^ 64 → number_from 0 w < 2 ^ 32 → Reads w
reads_by w n e small l =
    (ap all_ascii_digits e ∙ digits_decimal numerals n small, omega (arith, ap (λ (t : Text). length t) e, decimal_nonempty n small), l)

test_reads : (w : Text) → (bytes_eq w (decimal (number_from 0 w)) && nat_le (number_from 0 w) 4294967295) ≡ true → Reads w
test_reads w e =
    let both = and_parts (bytes_eq w (decimal (number_from 0 w))) (nat_le (number_from 0 w) 4294967295) e in
    let l : number_from 0 w < 2 ^ 32 = small_by w both.1 in
    reads_by w (number_from 0 w) ((bytes_eq-Decides w (decimal (number_from 0 w))).0 both.0) (omega (arith, l)) l

pub small_none : (w : Text) → (Reads w → ⊥) → small_number w ≡ None
small_none w f = go (bytes_eq w (decimal (number_from 0 w)) && nat_le (number_from 0 w) 4294967295) refl
  where
    go : (t : Bool) → (bytes_eq w (decimal (number_from 0 w)) && nat_le (number_from 0 w) 4294967295) ≡ t → by_test t (number_from 0 w) ≡ None
    go true e = absurd (f (test_reads w e))
    go false e = refl

other_reads : (w : Text) → is_ascii_digit (get_or w 0 0) ≡ false → Reads w → ⊥
other_reads [] h r = omega (arith, r.1)
other_reads (b ∷ bs) h r = let k = r.0 in grind (arith, nat_tests, k)

pub small_other : (w : Text) → is_ascii_digit (get_or w 0 0) ≡ false → small_number w ≡ None
small_other w h = small_none w (other_reads w h)

-- no decimal text has a zero before other digits
zero_reads : (w : Text) (n : ℕ) → get_or w 0 0 ≡ 48 → 1 < length w → w ≡ decimal n → n < 2 ^ 64 → ⊥
zero_reads w zero z l e s = omega (arith, l, ap (λ (t : Text). length t) (e ∙ decimal_digit 0 (omega arith)))
zero_reads w (suc n) z l e s =
    let first : get_or w 0 0 ≡ get_or (decimal (suc n)) 0 0 = ap (λ (t : Text). get_or t 0 0) e in
    omega (arith, z, first, first_decimal (suc n) (omega arith) s)

-- a zero stands in front of other bytes
abbrev front_zero : Text → Bool
front_zero w = (slice_index w 0 == 48) && nat_lt 1 (length w)

is_48 : (n : ℕ) → (n == 48) ≡ true → n ≡ 48
is_48 n e = grind (arith, nat_tests)

above_1 : (n : ℕ) → nat_lt 1 n ≡ true → 1 < n
above_1 n e = grind (arith, nat_tests)

not_above_1 : (n : ℕ) → nat_lt 1 n ≡ false → n ≤ 1
not_above_1 n e = grind (arith, nat_tests)

alone : (w : Text) → front_zero w ≡ false → get_or w 0 0 ≡ 48 → length w ≤ 1
alone w e z = not_above_1 (length w) (sym (ap (λ (n : ℕ). (n == 48) && nat_lt 1 (length w)) z) ∙ e)

zeros : (w : Text) → get_or w 0 0 ≡ 48 → 1 < length w → small_number w ≡ None
zeros w z l = go (bytes_eq w (decimal (number_from 0 w)) && nat_le (number_from 0 w) 4294967295) refl
  where
    go : (t : Bool) → (bytes_eq w (decimal (number_from 0 w)) && nat_le (number_from 0 w) 4294967295) ≡ t → by_test t (number_from 0 w) ≡ None
    go true e =
        let both = and_parts (bytes_eq w (decimal (number_from 0 w))) (nat_le (number_from 0 w) 4294967295) e in
        let small : number_from 0 w < 2 ^ 32 = small_by w both.1 in
        absurd (zero_reads w (number_from 0 w) z l ((bytes_eq-Decides w (decimal (number_from 0 w))).0 both.0) (omega (arith, small)))
    go false e = refl

pub small_zero : (w : Text) → front_zero w ≡ true → small_number w ≡ None
small_zero w f = let both = and_parts (slice_index w 0 == 48) (nat_lt 1 (length w)) f in zeros w (is_48 (slice_index w 0) both.0) (above_1 (length w) both.1)

-- ---- words that begin with a digit
abbrev reads : Text → ℕ → Bool
reads ds most = nat_lt 0 (length ds) && all_ascii_digits ds && nat_le (number_from 0 ds) most

abbrev by_reads : Bool → ℤ → Option ℤ
by_reads t z = cond t (Some z) None

-- the definition of numbers, with the test for the minus as an argument
abbrev by_minus : Text → Bool → Option ℤ
by_minus w m = by_reads (reads (cond m (drop 1 w) w) (cond m (2 ^ 63) (2 ^ 63 - 1)))
    (cond m (neg_ℤ (pos (number_from 0 (cond m (drop 1 w) w)))) (pos (number_from 0 (cond m (drop 1 w) w))))

number_by : (w : Text) (m : Bool) → has_minus w ≡ m → number w ≡ by_minus w m
unfolding number
number_by w m e = ap (by_minus w) e

no_minus : (w : Text) → is_ascii_digit (get_or w 0 0) ≡ true → has_minus w ≡ false
no_minus [] h = refl
no_minus (b ∷ bs) h = grind (arith, nat_tests, h)

digit_number : (w : Text) → is_ascii_digit (get_or w 0 0) ≡ true → number w ≡ by_reads (reads w (2 ^ 63 - 1)) (pos (number_from 0 w))
digit_number w h = number_by w false (no_minus w h)

reads_true : (w : Text) → Reads w → reads w (2 ^ 63 - 1) ≡ true
reads_true w r = let few : number_from 0 w ≤ 2 ^ 63 - 1 = omega (arith, r.2) in grind (arith, nat_tests, r.0, r.1, few)

pub small_unread : (w : Text) → is_ascii_digit (get_or w 0 0) ≡ true → number w ≡ None → small_number w ≡ None
small_unread w h e = small_none w (λ r. some_none (sym (digit_number w h ∙ ap (λ (t : Bool). by_reads t (pos (number_from 0 w))) (reads_true w r)) ∙ e))
  where
    some_none : {z : ℤ} → ◌≡◌ {A = Option ℤ} (Some z) None → ⊥
    some_none p = cc

record IsRead (w : Text) : Type 0 where
  digits : all_ascii_digits w ≡ true
  some : 0 < length w
  few : number_from 0 w ≤ 2 ^ 63 - 1

is_read : (w : Text) → reads w (2 ^ 63 - 1) ≡ true → IsRead w
is_read w e = record { digits = grind (arith, nat_tests); some = grind (arith, nat_tests); few = grind (arith, nat_tests) }

-- what is read of digits without a zero before others is of what they are the decimal text
pub record IsSmall (w : Text) (z : ℤ) : Type 0 where
  pub number : z ≡ pos (number_from 0 w)
  pub few : number_from 0 w < 2 ^ 63
  pub small : small_number w ≡ by_test (nat_le (number_from 0 w) 4294967295) (number_from 0 w)

pub small_read : (w : Text) (z : ℤ) → is_ascii_digit (get_or w 0 0) ≡ true → front_zero w ≡ false → number w ≡ Some z → IsSmall w z
small_read w z h f e = go (reads w (2 ^ 63 - 1)) refl (sym (digit_number w h) ∙ e)
  where
    go : (t : Bool) → reads w (2 ^ 63 - 1) ≡ t → by_reads t (pos (number_from 0 w)) ≡ Some z → IsSmall w z
    go false r n = cc
    go true r n =
        let is = is_read w r in
        let text : decimal (number_from 0 w) ≡ w = decimal-digits_value numerals w is.digits is.some (λ k. omega (arith, alone w f k, is.some)) (omega (arith, is.few)) in
        record {
          number = cc;
          few = omega (arith, is.few);
          small = ap (λ (t : Bool). by_test (t && nat_le (number_from 0 w) 4294967295) (number_from 0 w)) ((bytes_eq-Decides w (decimal (number_from 0 w))).1 (sym text));
        }

fits_by : (n : ℕ) → n < 2 ^ 32 → nat_le n 4294967295 ≡ true
fits_by n l = grind (arith, nat_tests, l)

past_by : (n : ℕ) → (n < 2 ^ 32 → ⊥) → nat_le n 4294967295 ≡ false
past_by n f = go (nat_le n 4294967295) refl
  where
    below : nat_le n 4294967295 ≡ true → n < 2 ^ 32
    below e = grind (arith, nat_tests)

    go : (b : Bool) → nat_le n 4294967295 ≡ b → b ≡ false
    go true e = absurd (f (below e))
    go false e = refl

narrowed : {E : Type 0} (n : ℕ) (r : Result ℕ E) → OkIff r (n < 2 ^ 32) n → result_ok r ≡ by_test (nat_le n 4294967295) n
narrowed n (Ok x) h = ap Some h.1 ∙ ap (λ (t : Bool). by_test t n) (sym (fits_by n h.0))
narrowed n (Err e) h = ap (λ (t : Bool). by_test t n) (sym (past_by n h))

pos_fits : (n : ℕ) → n < 2 ^ 63 → SFits w64 (pos n)
pos_fits n l = record { sfits = l }

-- and it is kept where it has 32 bits
pub small_kept : {E : Type 0} (w : Text) (z : ℤ) (r : Result ℕ E) → IsSmall w z → OkIff r (FitsUnsignedBits 32 (to_z w64 (of_z w64 z))) (unsigned_abs (to_z w64 (of_z w64 z))) → result_ok r ≡ small_number w
small_kept w z r s h =
    let back : to_z w64 (of_z w64 z) ≡ z = to_z-of_z w64 z (subst (SFits w64) (sym s.number) (pos_fits (number_from 0 w) s.few)) in
    narrowed (number_from 0 w) r (subst (λ (y : ℤ). OkIff r (FitsUnsignedBits 32 y) (unsigned_abs y)) (back ∙ s.number) h) ∙ sym s.small

-- ---- tables by their names
-- a place that fails the test isn't the first that passes it
past : (p : Text → Bool) (xs : List Text) (i : ℕ) (x : Text) → slice_get xs i ≡ Some x → p x ≡ false → i ≤ position_or_len p xs → i + 1 ≤ position_or_len p xs
past p [] i x h f l = cc
past p (y ∷ ys) zero x h f l = past_first (p y) (position_or_len p ys) (let same : y ≡ x = cc in ap p same ∙ f)
past p (y ∷ ys) (suc i) x h f l = past_on (p y) i (position_or_len p ys) l (past p ys i x h f)

-- a place that passes it, with none before, is the first
here : (p : Text → Bool) (xs : List Text) (i : ℕ) (x : Text) → slice_get xs i ≡ Some x → p x ≡ true → i ≤ position_or_len p xs → i ≡ position_or_len p xs
here p [] i x h f l = cc
here p (y ∷ ys) zero x h f l = here_first (p y) (position_or_len p ys) (let same : y ≡ x = cc in ap p same ∙ f)
here p (y ∷ ys) (suc i) x h f l = here_on (p y) i (position_or_len p ys) l (here p ys i x h f)

name_at : (names : List Text) (tables : List ℕ) (i : ℕ) (t : Text) → i < length tables → slice_get names (get_or tables i 0) ≡ Some t → slice_get (table_names names tables) i ≡ Some t
name_at names [] i t l h = absurd (omega (arith, l))
name_at names (x ∷ xs) zero t l h = ap (λ (o : Option Text). Some (unwrap_or o [])) h
name_at names (x ∷ xs) (suc i) t l h = name_at names xs i t (omega (arith, l)) h

pub table_past : (names : List Text) (tables : List ℕ) (name : Text) (i : ℕ) (t : Text) → i < length tables → slice_get names (get_or tables i 0) ≡ Some t → bytes_eq name t ≡ false → i ≤ place_of (table_names names tables) name → i + 1 ≤ place_of (table_names names tables) name
table_past names tables name i t l h other b = past (bytes_eq name) (table_names names tables) i t (name_at names tables i t l h) other b

pub table_here : (names : List Text) (tables : List ℕ) (name : Text) (i : ℕ) (t : Text) → i < length tables → slice_get names (get_or tables i 0) ≡ Some t → bytes_eq name t ≡ true → i ≤ place_of (table_names names tables) name → i ≡ place_of (table_names names tables) name
table_here names tables name i t l h same b = here (bytes_eq name) (table_names names tables) i t (name_at names tables i t l h) same b

names_count : (names : List Text) (tables : List ℕ) → length (table_names names tables) ≡ length tables
names_count names [] = refl
names_count names (t ∷ ts) = ap suc (names_count names ts)

pub place_within : (names : List Text) (tables : List ℕ) (name : Text) → place_of (table_names names tables) name ≤ length tables
place_within names tables name = omega (arith, prefix_len-le-length (λ t. not (bytes_eq name t)) (table_names names tables), names_count names tables)
