-- Words as values and ranges.
use Rattle.std.proofs.Common.{◌≡◌, ◌≢◌, ℕ, ℤ, ◌+◌, ◌≤◌, Bool, true, false, cond, eqb, ltb, List, [], ◌∷◌, length, Option, Some, None, refl, sym, ap, ◌∙◌, arith}
use Rattle.std.proofs.lemmas.Bool.Decides.{nat_tests}
use Rattle.std.proofs.lemmas.List.{drop_all}
use Rattle.std.proofs.lemmas.List.Sums.{prefix_len-le-length}
use Rattle.std.specs.List.{position, position_or_len, after_first, before_first}
use Rattle.std.specs.Str.{bytes_eq}
use Rattle.session_values.specs.Names.{place_of}
use Rattle.text_lines.specs.Text.{Text}
use Rattle.text_lines.specs.Values.{number}
use Rattle.range_tables.specs.declared.word.Operand.{Operand}
use Rattle.range_tables.specs.Words.{after_point, range_by, range_of}

none_at : (n m : ℕ) (b : Bool) → ltb n m ≡ b → ◌≡◌ {A = Option ℕ} None (cond b (Some n) None) → n ≤ m → m ≡ n
none_at n m true e h l = absurd (cc)
none_at n m false e h l = let k : m ≤ n = grind (arith, nat_tests) in omega (arith, k, l)

pub absent_place : (names : List Text) (w : Text) (len : ℕ) → len ≡ length names → None ≡ position (bytes_eq w) names → len ≡ place_of names w
absent_place names w len e h = e ∙ none_at (place_of names w) (length names) _ refl h (prefix_len-le-length _ names)

pub no_point : (bs : Text) → ((rest : Text) → bs ≢ 46 ∷ rest) → None ≡ after_point bs
no_point [] f = refl
no_point (b ∷ bs) f = go (eqb b 46) refl
  where
    same : (x : ℕ) → eqb x 46 ≡ true → x ≡ 46
    same x e = grind (arith, nat_tests)

    go : (t : Bool) → eqb b 46 ≡ t → None ≡ after_point (b ∷ bs)
    go true e = absurd (f bs (ap (λ (x : ℕ). x ∷ bs) (same b e)))
    go false e = sym (ap (λ (t : Bool). cond t (number bs) None) e)

no_high : (low : Option ℤ) → None ≡ range_by low None
no_high None = refl
no_high (Some x) = refl

pub no_range : (w : Text) → position_or_len (λ b. eqb b 46) w ≡ length w → None ≡ range_of w
unfolding range_of
no_range w e =
    let none : after_first (λ b. eqb b 46) w ≡ [] = drop_all (position_or_len (λ b. eqb b 46) w + 1) w (omega (arith, e)) in
    no_high (number (before_first (λ b. eqb b 46) w)) ∙ ap (λ (rest : Text). range_by (number (before_first (λ b. eqb b 46) w)) (after_point rest)) (sym none)

pub some_range : (w low rest : Text) (r : Option Operand) → low ≡ before_first (λ b. eqb b 46) w → rest ≡ after_first (λ b. eqb b 46) w → r ≡ range_by (number low) (after_point rest) → r ≡ range_of w
unfolding range_of
some_range w low rest r e f h = h ∙ ap (λ (t : Text). range_by (number t) (after_point rest)) e ∙ ap (λ (t : Text). range_by (number (before_first (λ b. eqb b 46) w)) (after_point t)) f
