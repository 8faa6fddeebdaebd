-- What a closed hall left as the entries with which its tables open again.
use Rattle.std.proofs.Common.{◌≡◌, ℕ, zero, suc, ◌+◌, ◌<◌, ◌≤◌, Bool, true, false, cond, ◌||◌, List, [], ◌∷◌, length, map as map_list, Option, Some, is_some, refl, sym, ◌∙◌, ap, subst, arith}
use Rattle.std.specs.List.{AllByRecursion}
use Rattle.std.specs.FinMap as map
use Rattle.std.specs.FinSet as set
use Rattle.session_values.specs.declared.kind.TableKind.{TableKind}
use Rattle.session_values.specs.declared.kind.TableKind.TheVariants.{Map, Set}
use Rattle.session_values.specs.declared.value.Value.{Value}
use Rattle.session_values.specs.declared.value.Value.TheVariants.{Nil}
use Rattle.session_values.specs.Sums.{sum_below}
use Rattle.session_values.specs.Tables.{AreValues, Bindings}
use Rattle.session_values.specs.Values.{IsValue, value_cmp, value_cmp_total, value_eq}
use Rattle.session_values.proofs.Equal.{same_value, value_eq-self}
use Rattle.session_values.proofs.Sums.{sum_alike, sum_first}
use Rattle.session_values.specs.Opening.{AreApart, AreKept, IsList, IsOpening, IsPair, Pair, container_of, count_all, entries_of, has_key}
use Rattle.session_values.proofs.KeptLemmas.{key_found}
use Rattle.session_hall.specs.Script.{Meaning}
use Rattle.session_hall.specs.Closings.{ClosedView, IsDone}
use Rattle.session_hall.specs.Listings.{AreLeft, listed}
use Rattle.client_feed.specs.Reopening.{CanReopen, Reopens, left_lists, listed_from}
use Rattle.client_feed.proofs.FinalValues.{final_values}
use Rattle.client_feed.proofs.Filling.{AreFilled, few_all, kind_at, opens_again, reopens}
use Rattle.client_feed.proofs.TableLists.{listed_nil}

-- ---- entries of which each key stands once are what their container holds
-- what holds of a container holds without its first entry
rest_map : (e : Pair) (es : List Pair) → has_key es e.0 ≡ false → AreValues (Bindings (map.insert (map.from_entries {R = value_cmp} es) e.0 e.1)) → AreValues (Bindings (map.from_entries {R = value_cmp} es))
rest_map e es new h k v g = by_key (value_eq k e.0) refl
  where
    found : has_key es k ≡ true
    found = sym (ap (λ (o : Option Value). is_some o) (map.get-from_entries value_cmp_total es k) ∙ key_found k es) ∙ ap (λ (o : Option Value). is_some o) g

    clash : (a : Bool) → a ≡ true → a ≡ false → IsValue k × IsValue v
    clash true t f = cc
    clash false t f = cc

    by_key : (b : Bool) → value_eq k e.0 ≡ b → IsValue k × IsValue v
    by_key true i = clash (has_key es k) found (ap (has_key es) (same_value k e.0 i) ∙ new)
    by_key false i = h k v (map.get-insert value_cmp_total (map.from_entries es) e.0 e.1 k ∙ ap (λ (b : Bool). cond b (Some e.1) (map.get (map.from_entries {R = value_cmp} es) k)) i ∙ g)

pub map_pairs : (es : List Pair) → AreApart es → AreValues (container_of Map es) → AllByRecursion IsPair es
map_pairs [] a h = tt
map_pairs (e ∷ es) a h = (
  h e.0 e.1 (map.get-insert value_cmp_total (map.from_entries es) e.0 e.1 e.0 ∙ ap (λ (b : Bool). cond b (Some e.1) (map.get (map.from_entries {R = value_cmp} es) e.0)) (value_eq-self e.0)),
  map_pairs es a.1 (rest_map e es a.0 h),
)

abbrev IsNil : Pair → Type 0
IsNil e = e.1 ≡ Nil

nil_value : (v : Value) → v ≡ Nil → IsValue v
nil_value v e = subst IsValue (sym e) tt

pub set_pairs : (es : List Pair) → AllByRecursion IsNil es → AreValues (container_of Set es) → AllByRecursion IsPair es
set_pairs [] n h = tt
set_pairs (e ∷ es) n h =
    let ks : List Value = map_list (λ (x : Pair). x.0) es in (
      (h e.0 (set.contains-insert value_cmp_total (set.from_list ks) e.0 e.0 ∙ ap (λ (b : Bool). b || set.contains (set.from_list {R = value_cmp} ks) e.0) (value_eq-self e.0)), nil_value e.1 n.0),
      set_pairs es n.1 (λ k g. h k (set.contains-insert value_cmp_total (set.from_list ks) e.0 k ∙ or_right (value_eq k e.0) (set.contains (set.from_list {R = value_cmp} ks) k) g)),
    )
  where
    or_right : (a b : Bool) → b ≡ true → (a || b) ≡ true
    or_right true b e = refl
    or_right false b e = e

-- ---- the lists, by table
pub listed_many : (d : ClosedView) (i n : ℕ) → length (listed_from d i n) ≡ n
listed_many d i zero = refl
listed_many d i (suc n) = ap suc (listed_many d (suc i) n)

pub listed_at : (d : ClosedView) (i n t : ℕ) → t < n → entries_of (listed_from d i n) t ≡ listed d (i + t)
listed_at d i zero t l = absurd (omega (arith, l))
listed_at d i (suc n) zero l = (let z : i ≡ i + 0 = omega arith in ap (listed d) z)
listed_at d i (suc n) (suc t) l = listed_at d (suc i) n t (omega (arith, l)) ∙ (let z : suc i + t ≡ i + suc t = omega arith in ap (listed d) z)

pub listed_none : (d : ClosedView) (i n t : ℕ) → n ≤ t → entries_of (listed_from d i n) t ≡ []
listed_none d i zero t l = refl
listed_none d i (suc n) zero l = absurd (omega (arith, l))
listed_none d i (suc n) (suc t) l = listed_none d (suc i) n t (omega (arith, l))

pub listed_count : (d : ClosedView) (i n : ℕ) → count_all (listed_from d i n) ≡ sum_below n (λ t. length (listed d (i + t)))
listed_count d i zero = refl
listed_count d i (suc n) =
    let rest = listed_count d (suc i) n in
    let first = sum_first n (λ t. length (listed d (i + t))) in
    let here : length (listed d (i + 0)) ≡ length (listed d i) = (let z : i + 0 ≡ i = omega arith in ap (λ (k : ℕ). length (listed d k)) z) in
    let same : sum_below n (λ t. length (listed d (suc i + t))) ≡ sum_below n (λ t. length (listed d (i + suc t))) = sum_alike n (λ t. length (listed d (suc i + t))) (λ t. length (listed d (i + suc t))) (λ t l. (let z : suc i + t ≡ i + suc t = omega arith in ap (λ (k : ℕ). length (listed d k)) z)) in
    omega (arith, rest, first, here, same)

pub listed_each : (P : List Pair → Type 0) (d : ClosedView) (i n : ℕ) → ((t : ℕ) → t < n → P (listed d (i + t))) → AllByRecursion P (listed_from d i n)
listed_each P d i zero h = tt
listed_each P d i (suc n) h =
    let z : i + 0 ≡ i = omega arith in (
      subst (λ (k : ℕ). P (listed d k)) z (h 0 (omega arith)),
      listed_each P d (suc i) n (λ t l. (let y : i + suc t ≡ suc i + t = omega arith in subst (λ (k : ℕ). P (listed d k)) y (h (suc t) (omega (arith, l))))),
    )

-- ---- what a closed hall left opens again
module _ (d : ClosedView) (shape : List TableKind) (can : CanReopen shape d) (few_tables : length shape ≤ 7) (left : (t : ℕ) → t < length shape → (m : Meaning) → IsDone m d → AreLeft m t (listed d t)) where
  abbrev lists : List (List Pair)
  lists = left_lists (length shape) d

  filled : AreFilled d shape (length shape) lists
  filled = record {
    many = listed_many d 0 (length shape);
    filled = λ t l. listed_at d 0 (length shape) t l ∙ (let z : 0 + t ≡ t = omega arith in ap (listed d) z);
    empty = λ t l. listed_none d 0 (length shape) t l;
    count = listed_count d 0 (length shape) ∙ sum_alike (length shape) (λ t. length (listed d (0 + t))) (λ t. length (listed d t)) (λ t l. (let z : 0 + t ≡ t = omega arith in ap (λ (k : ℕ). length (listed d k)) z));
    left = left;
  }

  -- each table's entries can be held, each key once
  list_at : (t : ℕ) → t < length shape → IsList (listed d t)
  list_at t l =
      let k = kind_at d shape can t l in
      let its = left t l can.script can.done in
      (pairs k.0 (listed d t) its.apart (λ e. listed_nil can.script d can.done t (k.1 ∙ ap (λ (x : TableKind). Some x) e)) (subst AreValues (sym (its.are k.0 k.1)) (final_values can.script d can.done t)), its.apart)
    where
      pairs : (kind : TableKind) (es : List Pair) → AreApart es → (kind ≡ Set → AllByRecursion IsNil es) → AreValues (container_of kind es) → AllByRecursion IsPair es
      pairs Map es a n v = map_pairs es a v
      pairs Set es a n v = set_pairs es (n refl) v

  kept : AreKept lists
  kept = record {
    each = listed_each IsList d 0 (length shape) (λ t l. (let z : t ≡ 0 + t = omega arith in subst (λ (k : ℕ). IsList (listed d k)) z (list_at t l)));
    tables = (let many = listed_many d 0 (length shape) in omega (arith, many, few_tables));
    few = few_all d shape can lists filled;
  }

  pub left_opens : IsOpening shape lists
  left_opens = opens_again d shape can lists filled kept

  pub left_reopens : Reopens d shape lists
  left_reopens = reopens d shape can lists filled
