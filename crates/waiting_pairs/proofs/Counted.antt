-- Rows tell of each cause, each once.
use Rattle.std.proofs.Common.{◌≡◌, ℕ, zero, suc, ◌<◌, Bool, true, false, cond, not, List, [], ◌∷◌, length, get_or, refl, sym, ap, ◌∙◌, subst, arith}
use Rattle.std.specs.List.{All, AllPairs, Contains, filter}
use Rattle.std.proofs.lemmas.Bool.{not-true}
use Rattle.std.proofs.lemmas.List.{get_or-map, length-map}
use Rattle.std.proofs.lemmas.List.Elements.{filter_passes}
use Rattle.std.proofs.lemmas.List.Kept.{AllPairs-cons, AllPairs-filter}
use Rattle.std.proofs.lemmas.List.Sorted.{All-permutation, Contains-permutation}
use Rattle.waiting_pairs.specs.declared.cause.Cause.{Cause}
use Rattle.waiting_pairs.specs.declared.counting.Row.{Row}
use Rattle.waiting_pairs.specs.Causes.{is_same}
use Rattle.waiting_pairs.specs.Rows.{AreRows, distinct, firsts, row_of, tally}
use Rattle.waiting_pairs.proofs.Distinct.{differ}
use Rattle.waiting_pairs.specs.Same.{one_cause}

module _ {X : Type 0} where
  behind : (b : Bool) (x : X) (ys : List X) (c : X) → Contains ys c → Contains (cond b (x ∷ ys) ys) c
  behind true x ys c h = (suc h.0, omega (arith, h.1), h.2)
  behind false x ys c h = h

  kept_in : (p : X → Bool) (xs : List X) (k : ℕ) (c : X) → k < length xs → get_or xs k c ≡ c → p c ≡ true → Contains (filter p xs) c
  kept_in p [] k c lt is h = absurd (omega (arith, lt))
  kept_in p (x ∷ xs) zero c lt is h =
      let e : p x ≡ true = ap p is ∙ h in
      subst (λ (b : Bool). Contains (cond b (x ∷ filter p xs) (filter p xs)) c) (sym e) (0, omega arith, is)
  kept_in p (x ∷ xs) (suc k) c lt is h = behind (p x) x (filter p xs) c (kept_in p xs k c (omega (arith, lt)) is h)

  module _ (E : X → X → Bool) (equal : (x y : X) → E x y ≡ true → x ≡ y) where
    pick : (x c : X) (xs : List X) → Contains xs c → (b : Bool) → E x c ≡ b → Contains (x ∷ filter (λ y. not (E x y)) xs) c
    pick x c xs h true e = (0, omega arith, equal x c e)
    pick x c xs h false e =
        let rest = kept_in (λ y. not (E x y)) xs h.0 c h.1 h.2 (ap not e) in
        (suc rest.0, omega (arith, rest.1), rest.2)

    in_distinct : (xs : List X) (k : ℕ) (c : X) → k < length xs → get_or xs k c ≡ c → Contains (distinct E xs) c
    in_distinct [] k c lt is = absurd (omega (arith, lt))
    in_distinct (x ∷ xs) zero c lt is = (0, omega arith, is)
    in_distinct (x ∷ xs) (suc k) c lt is = pick x c (distinct E xs) (in_distinct xs k c (omega (arith, lt)) is) (E x c) refl

pub has_row : (causes : List Cause) (rows : List Row) → AreRows causes rows → (c : Cause) → Contains causes c → Contains rows (row_of causes c)
has_row causes rows are c h =
    let first = in_distinct is_same one_cause causes h.0 c h.1 h.2 in
    Contains-permutation (tally causes) rows (row_of causes c) are.same
    (first.0, omega (arith, first.1, length-map (firsts causes) (row_of causes)), get_or-map (row_of causes) (firsts causes) first.0 c (row_of causes c) first.1 ∙ ap (row_of causes) first.2)

pub is_count : (causes : List Cause) (rows : List Row) → AreRows causes rows → All (λ (r : Row). r ≡ row_of causes r.cause) rows
is_count causes rows are = All-permutation (λ (r : Row). r ≡ row_of causes r.cause) (tally causes) rows are.same each
  where
    each : All (λ (r : Row). r ≡ row_of causes r.cause) (tally causes)
    each k d lt =
        let there : k < length (firsts causes) = omega (arith, lt, length-map (firsts causes) (row_of causes)) in
        subst (λ (r : Row). r ≡ row_of causes r.cause) (sym (get_or-map (row_of causes) (firsts causes) k d.cause d there)) refl

pub no_two : (causes : List Cause) → AllPairs (λ a b. is_same a b ≡ false) (firsts causes)
no_two causes = differ is_same causes
