-- Entries of which each key stands once, in another order: their keys still differ, and they make
-- the same table.
use Rattle.std.proofs.Common.{◌≡◌, ℕ, ◌+◌, ◌≤◌, Bool, true, false, cond, ◌||◌, ◌&&◌, List, [], ◌∷◌, map as map_list, Option, Some, None, is_some, refl, sym, ◌∙◌, ap, subst, arith}
use Rattle.std.proofs.lemmas.List.Sorted.{IsPermutation-map, list_any-IsPermutation, sum_by-IsPermutation}
use Rattle.std.proofs.lemmas.List.Sums.{sum_by-cons}
use Rattle.std.proofs.lemmas.Option.{same_Some}
use Rattle.std.specs.FinMap as map
use Rattle.std.specs.FinMap.Entries.{find}
use Rattle.std.specs.FinSet as set
use Rattle.std.specs.List.{list_any, sum_by}
use Rattle.std.specs.List.Sorted.{IsPermutation}
use Rattle.session_values.specs.Opening.{Pair, AreApart, container_of, has_key}
use Rattle.session_values.proofs.KeptLemmas.{key_found}
use Rattle.session_values.specs.Tables.{Bindings, Members}
use Rattle.session_values.specs.Values.{value_cmp, value_cmp_total, value_eq}
use Rattle.session_values.specs.declared.kind.TableKind.{TableKind}
use Rattle.session_values.specs.declared.kind.TableKind.TheVariants.{Map, Set}
use Rattle.session_values.specs.declared.value.Value.{Value}
use Rattle.session_values.proofs.Equal.{same_map, same_set, same_value, value_eq-self}

-- ---- how often a key stands
abbrev one_if : Bool → ℕ
one_if b = cond b 1 0

abbrev count : Value → List Pair → ℕ
count k es = sum_by (λ (e : Pair). one_if (value_eq k e.0)) es

count_step : (k : Value) (e : Pair) (es : List Pair) → count k (e ∷ es) ≡ one_if (value_eq k e.0) + count k es
count_step k e es = sum_by-cons (λ (x : Pair). one_if (value_eq k x.0)) e es

absent_none : (k : Value) (es : List Pair) → has_key es k ≡ false → count k es ≡ 0
absent_none k [] h = refl
absent_none k (e ∷ es) h = go (value_eq k e.0) refl h (absent_none k es)
  where
    go : (b : Bool) → value_eq k e.0 ≡ b → (b || has_key es k) ≡ false → (has_key es k ≡ false → count k es ≡ 0) → count k (e ∷ es) ≡ 0
    go true t h rest = cc
    go false t h rest =
        let first : count k (e ∷ es) ≡ 0 + count k es = count_step k e es ∙ ap (λ (b : Bool). one_if b + count k es) t in
        omega (arith, first, rest h)

few_if_apart : (k : Value) (es : List Pair) → AreApart es → count k es ≤ 1
few_if_apart k [] a = omega arith
few_if_apart k (e ∷ es) a = go (value_eq k e.0) refl (few_if_apart k es a.1)
  where
    go : (b : Bool) → value_eq k e.0 ≡ b → count k es ≤ 1 → count k (e ∷ es) ≤ 1
    go true t rest =
        let none : count k es ≡ 0 = absent_none k es (subst (λ (x : Value). has_key es x ≡ false) (sym (same_value k e.0 t)) a.0) in
        let first : count k (e ∷ es) ≡ 1 + count k es = count_step k e es ∙ ap (λ (b : Bool). one_if b + count k es) t in
        omega (arith, none, first)
    go false t rest =
        let first : count k (e ∷ es) ≡ 0 + count k es = count_step k e es ∙ ap (λ (b : Bool). one_if b + count k es) t in
        omega (arith, rest, first)

present_some : (k : Value) (es : List Pair) → has_key es k ≡ true → 1 ≤ count k es
present_some k [] h = cc
present_some k (e ∷ es) h = go (value_eq k e.0) refl h (present_some k es)
  where
    go : (b : Bool) → value_eq k e.0 ≡ b → (b || has_key es k) ≡ true → (has_key es k ≡ true → 1 ≤ count k es) → 1 ≤ count k (e ∷ es)
    go true t h rest =
        let first : count k (e ∷ es) ≡ 1 + count k es = count_step k e es ∙ ap (λ (b : Bool). one_if b + count k es) t in
        omega (arith, first)
    go false t h rest =
        let first : count k (e ∷ es) ≡ 0 + count k es = count_step k e es ∙ ap (λ (b : Bool). one_if b + count k es) t in
        omega (arith, first, rest h)

apart_if_few : (es : List Pair) → ((k : Value) → count k es ≤ 1) → AreApart es
apart_if_few [] f = tt
apart_if_few (e ∷ es) f = (go (has_key es e.0) refl, apart_if_few es (λ k. let first = count_step k e es in let one = f k in omega (arith, first, one)))
  where
    go : (b : Bool) → has_key es e.0 ≡ b → has_key es e.0 ≡ false
    go true h =
        let first : count e.0 (e ∷ es) ≡ 1 + count e.0 es = count_step e.0 e es ∙ ap (λ (b : Bool). one_if b + count e.0 es) (value_eq-self e.0) in
        absurd (omega (arith, first, f e.0, present_some e.0 es h))
    go false h = h

pub apart_again : (xs ys : List Pair) → IsPermutation xs ys → AreApart xs → AreApart ys
apart_again xs ys p a = apart_if_few ys (λ k.
    let same : count k ys ≡ count k xs = sum_by-IsPermutation (λ (e : Pair). one_if (value_eq k e.0)) xs ys p in
    omega (arith, same, few_if_apart k xs a))

-- ---- an entry is found where it stands
abbrev is_entry : Value → Value → Pair → Bool
is_entry k v e = value_eq k e.0 && value_eq v e.1

stands : (k v : Value) (es : List Pair) → find value_cmp k es ≡ Some v → list_any (is_entry k v) es ≡ true
stands k v [] h = cc
stands k v (e ∷ es) h = go (value_eq k e.0) h (stands k v es)
  where
    go : (b : Bool) → cond b (Some e.1) (find value_cmp k es) ≡ Some v → (find value_cmp k es ≡ Some v → list_any (is_entry k v) es ≡ true) → ((b && value_eq v e.1) || list_any (is_entry k v) es) ≡ true
    go true h rest = ap (λ (b : Bool). b || list_any (is_entry k v) es) (ap (value_eq v) (same_Some e.1 v h) ∙ value_eq-self v)
    go false h rest = rest h

has_entry_key : (k v : Value) (es : List Pair) → list_any (is_entry k v) es ≡ true → has_key es k ≡ true
has_entry_key k v [] h = cc
has_entry_key k v (e ∷ es) h = go (value_eq k e.0) (value_eq v e.1) h (has_entry_key k v es)
  where
    go : (b c : Bool) → ((b && c) || list_any (is_entry k v) es) ≡ true → (list_any (is_entry k v) es ≡ true → has_key es k ≡ true) → (b || has_key es k) ≡ true
    go true c h rest = refl
    go false c h rest = rest h

is_found : (k v : Value) (es : List Pair) → AreApart es → list_any (is_entry k v) es ≡ true → find value_cmp k es ≡ Some v
is_found k v [] a h = cc
is_found k v (e ∷ es) a h = go (value_eq k e.0) (value_eq v e.1) refl refl h (is_found k v es a.1)
  where
    go : (b c : Bool) → value_eq k e.0 ≡ b → value_eq v e.1 ≡ c → ((b && c) || list_any (is_entry k v) es) ≡ true → (list_any (is_entry k v) es ≡ true → find value_cmp k es ≡ Some v) → cond b (Some e.1) (find value_cmp k es) ≡ Some v
    go true true s t h rest = ap Some (sym (same_value v e.1 t))
    go true false s t h rest =
        let there : has_key es k ≡ true = has_entry_key k v es h in
        let gone : has_key es k ≡ false = subst (λ (x : Value). has_key es x ≡ false) (sym (same_value k e.0 s)) a.0 in
        absurd (cc (sym there ∙ gone))
    go false c s t h rest = rest h

nothing_found : (o : Option Value) → is_some o ≡ false → o ≡ None
nothing_found None h = refl
nothing_found (Some v) h = cc

same_found : (xs ys : List Pair) → IsPermutation xs ys → AreApart xs → (k : Value) → find value_cmp k xs ≡ find value_cmp k ys
same_found xs ys p a k = go (find value_cmp k ys) refl
  where
    go : (o : Option Value) → find value_cmp k ys ≡ o → find value_cmp k xs ≡ find value_cmp k ys
    go (Some v) h = is_found k v xs a (list_any-IsPermutation (is_entry k v) xs ys p ∙ stands k v ys h) ∙ sym h
    go None h =
        let none : has_key ys k ≡ false = sym (key_found k ys) ∙ ap is_some h in
        nothing_found (find value_cmp k xs) (key_found k xs ∙ list_any-IsPermutation (λ (e : Pair). value_eq k e.0) xs ys p ∙ none) ∙ sym h

-- the table is the same
pub same_container : (kind : TableKind) (xs ys : List Pair) → IsPermutation xs ys → AreApart xs → container_of kind xs ≡ container_of kind ys
same_container Map xs ys p a = ap Bindings (same_map (map.from_entries xs) (map.from_entries ys)
    (λ q. map.get-from_entries value_cmp_total xs q ∙ same_found xs ys p a q ∙ sym (map.get-from_entries value_cmp_total ys q)))
same_container Set xs ys p a =
    let keys = λ (es : List Pair). map_list (λ (e : Pair). e.0) es in
    ap Members (same_set (set.from_list (keys xs)) (set.from_list (keys ys))
    (λ q. set.contains-from_list value_cmp_total (keys xs) q ∙ list_any-IsPermutation (value_eq q) (keys xs) (keys ys) (IsPermutation-map (λ (e : Pair). e.0) xs ys p) ∙ sym (set.contains-from_list value_cmp_total (keys ys) q)))
