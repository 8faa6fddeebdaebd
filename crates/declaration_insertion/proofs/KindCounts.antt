-- How many kinds a list in order names: as many as there are symbols of another kind, or on another
-- table, than the one before.
use Rattle.std.proofs.Common.{◌≡◌, ℕ, zero, suc, ◌+◌, ◌-◌, ◌<◌, ◌≤◌, ◌⊎◌, inl, inr, Bool, true, false, true≢false, cond, ◌||◌, ◌&&◌, List, [], ◌∷◌, ◌++◌, length, take, get_or, refl, sym, ap, ◌∙◌, arith}
use Rattle.std.specs.Cmp.{IsEquivalence, and_equiv, nat_eq_equiv, on_equiv, ranked}
use Rattle.std.specs.List.{list_any}
use Rattle.std.specs.Prelude.{slice_index_or}
use Rattle.std.specs.List.Sorted.{IsStrictlySortedBy}
use Rattle.std.specs.Ordering.{nat_cmp, ordering_then}
use Rattle.std.specs.Set.{distinct_count, unique_keys}
use Rattle.std.specs.declared.cmp.Ordering.{Ordering}
use Rattle.std.specs.declared.cmp.Ordering.TheVariants.{Less, Equal, Greater}
use Rattle.std.proofs.Math.Bool.{or-true}
use Rattle.std.proofs.lemmas.Bool.{cases_lt, eqb-true, eq-eqb}
use Rattle.std.proofs.lemmas.List.{get_or_read, take_all, take_more}
use Rattle.std.proofs.lemmas.List.Folds.{list_any-append}
use Rattle.std.proofs.lemmas.Map.Keys.{Less-from_sorted}
use Rattle.session_values.specs.Kinds.{kind_place}
use Rattle.session_values.proofs.KindLemmas.{one_place}
use Rattle.symbolic_ops.specs.Order.{symbol_cmp}
use Rattle.symbolic_ops.specs.declared.symbol.Symbol.{Symbol}
use Rattle.handler_check.specs.Code.{points}
use Rattle.handler_check.specs.File.{File}
use Rattle.handler_check.specs.Resolved.{code_at}
use Rattle.may_use_analysis.specs.Later.{AreLater}
use Rattle.declaration_insertion.specs.Facts.{AreInOrder, IsOther, is_same_kind, kinds_in}

-- ---- counting with one more element behind

module _ {K : Type 0} {eq : K → K → Bool} (laws : IsEquivalence eq) where
  seen : (x : K) (ys : List K) → list_any (eq x) ys ≡ true → distinct_count eq (x ∷ ys) ≡ distinct_count eq ys
  seen x ys h = ap (λ c. length (cond c (unique_keys eq ys) (x ∷ unique_keys eq ys))) h

  new : (x : K) (ys : List K) → list_any (eq x) ys ≡ false → distinct_count eq (x ∷ ys) ≡ suc (distinct_count eq ys)
  new x ys h = ap (λ c. length (cond c (unique_keys eq ys) (x ∷ unique_keys eq ys))) h

  behind : (x t : K) (xs : List K) (m b : Bool) → list_any (eq x) xs ≡ m → eq x t ≡ b → list_any (eq x) (xs ++ t ∷ []) ≡ (m || (b || false))
  behind x t xs m b f e = list_any-append (eq x) xs (t ∷ []) ∙ (λ i. f i || (e i || false))

  alike_among : (x t : K) (xs : List K) → eq x t ≡ true → list_any (eq x) xs ≡ list_any (eq t) xs
  alike_among x t [] e = refl
  alike_among x t (y ∷ ys) e = λ i. laws.congr x t y e i || alike_among x t ys e i

  pub more_new : (xs : List K) (t : K) → list_any (eq t) xs ≡ false → distinct_count eq (xs ++ t ∷ []) ≡ suc (distinct_count eq xs)
  more_new [] t h = new t [] refl
  more_new (x ∷ xs) t h = go (eq t x) refl (list_any (eq x) xs) refl h (more_new xs t)
    where
      go : (b : Bool) → eq t x ≡ b → (m : Bool) → list_any (eq x) xs ≡ m → (b || list_any (eq t) xs) ≡ false → (list_any (eq t) xs ≡ false → distinct_count eq (xs ++ t ∷ []) ≡ suc (distinct_count eq xs)) → distinct_count eq (x ∷ (xs ++ t ∷ [])) ≡ suc (distinct_count eq (x ∷ xs))
      go true e m f g r = absurd (true≢false g)
      go false e true f g r = seen x (xs ++ t ∷ []) (behind x t xs true false f (laws.symm x t ∙ e)) ∙ r g ∙ ap suc (sym (seen x xs f))
      go false e false f g r = new x (xs ++ t ∷ []) (behind x t xs false false f (laws.symm x t ∙ e)) ∙ ap suc (r g) ∙ ap suc (sym (new x xs f))

  pub more_seen : (xs : List K) (t : K) → list_any (eq t) xs ≡ true → distinct_count eq (xs ++ t ∷ []) ≡ distinct_count eq xs
  more_seen [] t h = absurd (true≢false (sym h))
  more_seen (x ∷ xs) t h = go (eq t x) refl (list_any (eq x) xs) refl (list_any (eq t) xs) refl h (more_seen xs t)
    where
      go : (b : Bool) → eq t x ≡ b → (m : Bool) → list_any (eq x) xs ≡ m → (n : Bool) → list_any (eq t) xs ≡ n → (b || n) ≡ true → (list_any (eq t) xs ≡ true → distinct_count eq (xs ++ t ∷ []) ≡ distinct_count eq xs) → distinct_count eq (x ∷ (xs ++ t ∷ [])) ≡ distinct_count eq (x ∷ xs)
      go false e m f false k g r = absurd (true≢false (sym g))
      go false e true f true k g r = seen x (xs ++ t ∷ []) (behind x t xs true false f (laws.symm x t ∙ e)) ∙ r k ∙ sym (seen x xs f)
      go false e false f true k g r = new x (xs ++ t ∷ []) (behind x t xs false false f (laws.symm x t ∙ e)) ∙ ap suc (r k) ∙ sym (new x xs f)
      go true e true f true k g r = seen x (xs ++ t ∷ []) (behind x t xs true true f (laws.symm x t ∙ e)) ∙ r k ∙ sym (seen x xs f)
      go true e false f true k g r = absurd (true≢false (sym k ∙ sym (alike_among x t xs (laws.symm x t ∙ e)) ∙ f))
      go true e true f false k g r = absurd (true≢false (sym f ∙ alike_among x t xs (laws.symm x t ∙ e) ∙ k))
      go true e false f false k g r = seen x (xs ++ t ∷ []) (behind x t xs false true f (laws.symm x t ∙ e)) ∙ more_new xs t k ∙ sym (new x xs f)

-- ---- kinds

laws_of_kinds : IsEquivalence is_same_kind
laws_of_kinds = and_equiv (on_equiv (λ (s : Symbol). kind_place s.kind) nat_eq_equiv) (on_equiv (λ (s : Symbol). s.table) nat_eq_equiv)

both : (a b : Bool) → (a && b) ≡ true → (a ≡ true) × (b ≡ true)
both true b e = (refl, e)
both false b e = absurd (true≢false (sym e))

same_parts : (s t : Symbol) → is_same_kind s t ≡ true → (kind_place s.kind ≡ kind_place t.kind) × (s.table ≡ t.table)
same_parts s t e =
    let parts = both _ _ e in
    (eqb-true (kind_place s.kind) (kind_place t.kind) parts.0, eqb-true s.table t.table parts.1)

from_parts : (s t : Symbol) → kind_place s.kind ≡ kind_place t.kind → s.table ≡ t.table → is_same_kind s t ≡ true
from_parts s t k e = λ i. eq-eqb (kind_place s.kind) (kind_place t.kind) k i && eq-eqb s.table t.table e i

pub other_kind : (s t : Symbol) → IsOther s t → is_same_kind s t ≡ false
other_kind s t other = go (is_same_kind s t) refl
  where
    go : (b : Bool) → is_same_kind s t ≡ b → is_same_kind s t ≡ false
    go false e = e
    go true e = let parts = same_parts s t e in absurd (other (one_place s.kind t.kind parts.0) parts.1)

pub same_kind : (s t : Symbol) → (IsOther s t → ⊥) → is_same_kind s t ≡ true
same_kind s t same = go (is_same_kind s t) refl
  where
    go : (b : Bool) → is_same_kind s t ≡ b → is_same_kind s t ≡ true
    go true e = e
    go false e = absurd (same (λ k f. true≢false (sym (from_parts s t (ap kind_place k) f) ∙ e)))

-- ---- the order

-- what is before is on a table before, or of a kind before on the same one, or alike in both
kinds_rise : (s t : Symbol) → symbol_cmp s t ≡ Less → (s.table ≤ t.table) × (s.table ≡ t.table → kind_place s.kind ≤ kind_place t.kind)
kinds_rise s t e = go (nat_cmp s.table t.table) refl (nat_cmp (kind_place s.kind) (kind_place t.kind)) refl _ e
  where
    go : (o : Ordering) → nat_cmp s.table t.table ≡ o → (p : Ordering) → nat_cmp (kind_place s.kind) (kind_place t.kind) ≡ p → (q : Ordering) → ordering_then o (ordering_then p q) ≡ Less → (s.table ≤ t.table) × (s.table ≡ t.table → kind_place s.kind ≤ kind_place t.kind)
    go Less f p g q h = let lt : s.table < t.table = ranked s.table t.table Less (sym f) in (omega (arith, lt), λ same. absurd (omega (arith, lt, same)))
    go Equal f Less g q h =
        let same : s.table ≡ t.table = ranked s.table t.table Equal (sym f) in
        let lt : kind_place s.kind < kind_place t.kind = ranked _ _ Less (sym g) in
        (omega (arith, same), λ _. omega (arith, lt))
    go Equal f Equal g q h =
        let same : s.table ≡ t.table = ranked s.table t.table Equal (sym f) in
        let alike : kind_place s.kind ≡ kind_place t.kind = ranked _ _ Equal (sym g) in
        (omega (arith, same), λ _. omega (arith, alike))
    go Equal f Greater g q h = absurd (cc h)
    go Greater f p g q h = absurd (cc h)

-- what stands between two of one kind is of it
between : (s r t : Symbol) → symbol_cmp s r ≡ Less → symbol_cmp r t ≡ Less → is_same_kind t s ≡ true → is_same_kind t r ≡ true
between s r t low high e =
    let parts = same_parts t s e in
    let first = kinds_rise s r low in
    let second = kinds_rise r t high in
    let table : t.table ≡ r.table = omega (arith, parts.1, first.0, second.0) in
    let up = first.1 (omega (arith, parts.1, table)) in
    let on = second.1 (sym table) in
    from_parts t r (omega (arith, parts.0, up, on)) table

-- of a list in order none up to a place is of the kind of the one there, if that before it isn't
none_before : (list : List Symbol) (j i : ℕ) (d : Symbol) → IsStrictlySortedBy symbol_cmp list → j + 1 ≡ i → i < length list → is_same_kind (get_or list i d) (get_or list j d) ≡ false → list_any (is_same_kind (get_or list i d)) (take i list) ≡ false
none_before list j i d sorted next lt e = up_to i (omega arith)
  where
    by_place : (k : ℕ) → (k < j) ⊎ (j ≤ k) → k ≤ j → is_same_kind (get_or list i d) (get_or list k d) ≡ true → is_same_kind (get_or list i d) (get_or list k d) ≡ false
    by_place k (inl below) le f = absurd (true≢false (sym (between (get_or list k d) (get_or list j d) (get_or list i d) (Less-from_sorted symbol_cmp list k j d sorted below (omega (arith, next, lt))) (Less-from_sorted symbol_cmp list j i d sorted (omega (arith, next)) lt) f) ∙ e))
    by_place k (inr at) le f = let same : k ≡ j = omega (arith, le, at) in ap (λ (m : ℕ). is_same_kind (get_or list i d) (get_or list m d)) same ∙ e

    apart : (k : ℕ) → k ≤ j → (b : Bool) → is_same_kind (get_or list i d) (get_or list k d) ≡ b → is_same_kind (get_or list i d) (get_or list k d) ≡ false
    apart k le false f = f
    apart k le true f = by_place k (cases_lt k j) le f

    up_to : (n : ℕ) → n ≤ i → list_any (is_same_kind (get_or list i d)) (take n list) ≡ false
    up_to zero le = refl
    up_to (suc n) le =
        let one : suc n ≡ n + 1 = omega arith in
        let far : is_same_kind (get_or list i d) (get_or list n d) ≡ false = apart n (omega (arith, le, next)) _ refl in
        ap (λ (m : ℕ). list_any (is_same_kind (get_or list i d)) (take m list)) one ∙ ap (list_any (is_same_kind (get_or list i d))) (take_more list n d (omega (arith, le, lt))) ∙ list_any-append (is_same_kind (get_or list i d)) (take n list) (get_or list n d ∷ []) ∙ (λ k. up_to n (omega (arith, le)) k || (far k || false))

-- ---- counting up to a place of a list in order

pub kinds_none : (list : List Symbol) → list ≡ [] → 0 ≡ kinds_in list
kinds_none list e = ap (λ (z : List Symbol). kinds_in z) (sym e)

pub kinds_first : (list : List Symbol) → 0 < length list → 1 ≡ kinds_in (take 1 list)
kinds_first [] lt = absurd (omega (arith, lt))
kinds_first (s ∷ list) lt = refl

pub kinds_whole : (list : List Symbol) (i n : ℕ) → length list ≤ i → n ≡ kinds_in (take i list) → n ≡ kinds_in list
kinds_whole list i n le e = e ∙ ap (λ (z : List Symbol). kinds_in z) (take_all i list le)

-- one more where the two are of different kinds or on different tables
pub one_more : (n : ℕ) (s t : Symbol) → IsOther s t → n + 1 ≡ n + cond (is_same_kind s t) 0 1
one_more n s t other = ap (λ b. n + cond b 0 1) (sym (other_kind s t other))

pub none_more : (n : ℕ) (s t : Symbol) → (IsOther s t → ⊥) → n ≡ n + cond (is_same_kind s t) 0 1
none_more n s t same = let zero_more : n ≡ n + 0 = omega arith in zero_more ∙ ap (λ b. n + cond b 0 1) (sym (same_kind s t same))

-- so much more is counted at a place, by the symbol there and the one before
pub kinds_next : (list : List Symbol) (i : ℕ) (r t : Symbol) → IsStrictlySortedBy symbol_cmp list → 0 < i → i < length list → r ≡ get_or list (i - 1) r → t ≡ get_or list i t → kinds_in (take (i + 1) list) ≡ kinds_in (take i list) + cond (is_same_kind r t) 0 1
kinds_next list i r t sorted some lt at_r at_t = go (is_same_kind r t) refl
  where
    last : r ≡ get_or list (i - 1) t
    last = get_or_read list (i - 1) r (omega (arith, lt)) at_r t

    whole : take (i + 1) list ≡ take i list ++ t ∷ []
    whole = take_more list i t lt ∙ ap (λ (z : Symbol). take i list ++ z ∷ []) (sym at_t)

    go : (b : Bool) → is_same_kind r t ≡ b → kinds_in (take (i + 1) list) ≡ kinds_in (take i list) + cond (is_same_kind r t) 0 1
    go false e =
        let apart : is_same_kind (get_or list i t) (get_or list (i - 1) t) ≡ false = (λ k. is_same_kind (sym at_t k) (sym last k)) ∙ laws_of_kinds.symm t r ∙ e in
        let none : list_any (is_same_kind t) (take i list) ≡ false = ap (λ (z : Symbol). list_any (is_same_kind z) (take i list)) at_t ∙ none_before list (i - 1) i t sorted (omega (arith, some)) lt apart in
        let more : kinds_in (take (i + 1) list) ≡ suc (kinds_in (take i list)) = ap (λ (z : List Symbol). kinds_in z) whole ∙ more_new laws_of_kinds (take i list) t none in
        let plus : suc (kinds_in (take i list)) ≡ kinds_in (take i list) + 1 = omega arith in
        more ∙ plus ∙ ap (λ b. kinds_in (take i list) + cond b 0 1) (sym e)
    go true e =
        let one : i ≡ i - 1 + 1 = omega (arith, some) in
        let front : take i list ≡ take (i - 1) list ++ r ∷ [] = ap (λ (m : ℕ). take m list) one ∙ take_more list (i - 1) t (omega (arith, lt)) ∙ ap (λ (z : Symbol). take (i - 1) list ++ z ∷ []) (sym last) in
        let alike : is_same_kind t r ≡ true = laws_of_kinds.symm t r ∙ e in
        let found : list_any (is_same_kind t) (take i list) ≡ true = ap (list_any (is_same_kind t)) front ∙ list_any-append (is_same_kind t) (take (i - 1) list) (r ∷ []) ∙ ap (λ c. list_any (is_same_kind t) (take (i - 1) list) || (c || false)) alike ∙ or-true (list_any (is_same_kind t) (take (i - 1) list)) in
        let stays : kinds_in (take (i + 1) list) ≡ kinds_in (take i list) = ap (λ (z : List Symbol). kinds_in z) whole ∙ more_seen laws_of_kinds (take i list) t found in
        let plus : kinds_in (take i list) ≡ kinds_in (take i list) + 0 = omega arith in
        stays ∙ plus ∙ ap (λ b. kinds_in (take i list) + cond b 0 1) (sym e)

-- the lists of a handler's points are in order
pub lists_in_order : (f : File) (all : List (List (List Symbol))) (h : ℕ) → AreLater f all → h < length f.handlers → AreInOrder (slice_index_or all h [])
lists_in_order f all h later lt p inside =
    let own = later.each h lt in
    let place : p < 1 + points (code_at f h) = omega (arith, own.count, inside) in
    ((own.each p place).0, own.few p place)
