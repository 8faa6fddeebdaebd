-- The symbols among words have texts of at most 64 bytes, and a program can hold what a word is.
use Rattle.std.proofs.Common.{◌≡◌, ℕ, zero, suc, ◌-◌, ◌^◌, ℤ, pos, neg_ℤ, ◌<◌, ◌≤◌, Bool, true, false, cond, List, [], ◌∷◌, length, Option, Some, None, refl, sym, subst, arith}
use Rattle.std.proofs.lemmas.Bool.Decides.{nat_tests}
use Rattle.std.proofs.lemmas.Option.{slice_get_within}
use Rattle.std.specs.Option.{unwrap_or}
use Rattle.std.specs.List.{AllByRecursion}
use Rattle.session_values.specs.Names.{place_of, Begins, IsNamed}
use Rattle.session_values.specs.ReplyText.{IsPrintable}
use Rattle.session_values.specs.Values.{IsValue}
use Rattle.session_values.specs.declared.value.Value.TheVariants.{Nil, Num}
use Rattle.session_values.proofs.Named.{begins_same, begins_then, named_with, printable_kept}
use Rattle.text_lines.specs.Text.{Text}
use Rattle.text_lines.specs.Values.{has_minus, size_of, size_limit, is_number, number_of, is_nil, is_symbol, number, as_value, value_of, values_of, placed, placed_all}
use Rattle.text_lines.proofs.ValueLemmas.{placed_by, value_by, value_kept, placed_all_begins, placed_all_step}

symbol_short : (w : Text) → is_symbol w ≡ true → length w ≤ 64
unfolding is_symbol
symbol_short w e = grind (arith, nat_tests)

plain : (names : List Text) (nil : Bool) (n : Option ℤ) → IsPrintable names (unwrap_or (cond nil (Some Nil) (as_value n)) Nil)
plain names true n = tt
plain names false None = tt
plain names false (Some n) = tt

value_printable : (names : List Text) (w : Text) (b : Bool) → is_symbol w ≡ b → IsPrintable (placed names w) (unwrap_or (value_of (placed names w) w) Nil)
value_printable names w true e =
    let named : IsNamed (placed names w) (place_of (placed names w) w) = subst (λ ns. IsNamed ns (place_of ns w)) (sym (placed_by names w true e)) (named_with names w (symbol_short w e)) in
    subst (λ o. IsPrintable (placed names w) (unwrap_or o Nil)) (sym (value_by (placed names w) w true e)) named
value_printable names w false e =
    subst (λ o. IsPrintable (placed names w) (unwrap_or o Nil)) (sym (value_by (placed names w) w false e)) (plain (placed names w) (is_nil w) (number w))

word_printable : (names : List Text) (w : Text) (final : List Text) → Begins (placed names w) final → IsPrintable final (unwrap_or (value_of final w) Nil)
word_printable names w final p =
    subst (λ o. IsPrintable final (unwrap_or o Nil)) (sym (value_kept names final w p))
    (printable_kept (placed names w) final _ p (value_printable names w _ refl))

-- the values of words that were placed have texts
pub values_printable : (names ws final : List Text) → Begins (placed_all names ws) final → AllByRecursion (IsPrintable final) (values_of final ws)
values_printable names [] final p = tt
values_printable names (w ∷ ws) final p =
    let rest : Begins (placed_all (placed names w) ws) final = subst (λ ns. Begins ns final) (placed_all_step names w ws) p in
    (word_printable names w final (begins_then _ _ _ (placed_all_begins (placed names w) ws) rest), values_printable (placed names w) ws final rest)

-- ---- a program can hold what a word is

pub number_held : (w : Text) (z : ℤ) → number w ≡ Some z → IsValue (Num z)
unfolding number
number_held w z e = go (is_number w) refl e
  where
    small : is_number w ≡ true → size_of w ≤ size_limit w
    small t = grind (arith, nat_tests)

    minus : (n : ℕ) → n ≤ 2 ^ 63 → IsValue (Num (neg_ℤ (pos n)))
    minus zero l = omega arith
    minus (suc n) l = omega arith

    sign : (b : Bool) → has_minus w ≡ b → size_of w ≤ cond b (2 ^ 63) (2 ^ 63 - 1) → IsValue (Num (cond b (neg_ℤ (pos (size_of w))) (pos (size_of w))))
    sign true h l = minus (size_of w) l
    sign false h l = omega arith

    go : (b : Bool) → is_number w ≡ b → cond b (Some (number_of w)) None ≡ Some z → IsValue (Num z)
    go true t h = (let same : number_of w ≡ z = cc in subst (λ (x : ℤ). IsValue (Num x)) same (sign (has_minus w) refl (small t)))
    go false t h = absurd (cc)

word_held : (names : List Text) (w : Text) → length names ≤ 4294967295 → IsPrintable names (unwrap_or (value_of names w) Nil) → IsValue (unwrap_or (value_of names w) Nil)
word_held names w few p = go (is_symbol w) refl
  where
    numeral : (o : Option ℤ) → number w ≡ o → IsValue (unwrap_or (as_value o) Nil)
    numeral None e = tt
    numeral (Some z) e = number_held w z e

    other : (b : Bool) → IsValue (unwrap_or (cond b (Some Nil) (as_value (number w))) Nil)
    other true = tt
    other false = numeral (number w) refl

    go : (b : Bool) → is_symbol w ≡ b → IsValue (unwrap_or (value_of names w) Nil)
    go true e =
        let is = value_by names w true e in
        let named : IsNamed names (place_of names w) = subst (λ o. IsPrintable names (unwrap_or o Nil)) is p in
        let below = slice_get_within names (place_of names w) named.text named.at in
        subst (λ o. IsValue (unwrap_or o Nil)) (sym is) (let l : place_of names w < 2 ^ 32 = omega (arith, below, few) in l)
    go false e = subst (λ o. IsValue (unwrap_or o Nil)) (sym (value_by names w false e)) (other (is_nil w))

all_held : (names ws : List Text) → length names ≤ 4294967295 → AllByRecursion (IsPrintable names) (values_of names ws) → AllByRecursion IsValue (values_of names ws)
all_held names [] few p = tt
all_held names (w ∷ ws) few p = (word_held names w few p.0, all_held names ws few p.1)

-- the values of words that were placed
pub values_held : (old ws new : List Text) → new ≡ placed_all old ws → length new ≤ 4294967295 → AllByRecursion IsValue (values_of new ws)
values_held old ws new is few = all_held new ws few (values_printable old ws new (subst (λ ns. Begins ns new) is (begins_same new)))
