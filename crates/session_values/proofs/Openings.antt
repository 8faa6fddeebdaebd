-- Tables that open with lists of entries: their kinds, values and sizes.
use Rattle.std.proofs.Common.{◌≡◌, ℕ, zero, suc, ◌+◌, ◌≤◌, List, [], ◌∷◌, length, map as map_list, replicate, Some, Bool, true, false, cond, ◌||◌, refl, sym, ◌∙◌, ap, subst, arith}
use Rattle.std.proofs.lemmas.Option.{same_Some}
use Rattle.std.specs.List.{AllByRecursion}
use Rattle.std.specs.FinMap as map
use Rattle.std.specs.FinSet as set
use Rattle.session_values.specs.declared.value.Value.{Value}
use Rattle.session_values.specs.declared.kind.TableKind.{TableKind}
use Rattle.session_values.specs.declared.kind.TableKind.TheVariants.{Map, Set}
use Rattle.session_values.specs.Opening.{Pair, container_of, tables_of, entries_of, IsEntry, AreEntries, IsOpening, count_all, no_entries}
use Rattle.session_values.specs.Tables.{Bindings, Members, AreValues, empty_of, kind_of, size_of, start, table}
use Rattle.session_values.specs.Values.{value_cmp, value_eq, value_cmp_total, IsValue}
use Rattle.session_values.proofs.Equal.{same_value}
use Rattle.session_values.proofs.Starts.{values_none, members_none}

-- ---- kinds
pub kind_is : (kind : TableKind) (es : List Pair) → kind_of (container_of kind es) ≡ kind
kind_is Map es = refl
kind_is Set es = refl

pub opening_kinds : (shape : List TableKind) (lists : List (List Pair)) → map_list kind_of (tables_of shape lists) ≡ shape
opening_kinds [] lists = refl
opening_kinds (kind ∷ shape) [] = λ i. kind_is kind [] i ∷ opening_kinds shape [] i
opening_kinds (kind ∷ shape) (es ∷ lists) = λ i. kind_is kind es i ∷ opening_kinds shape lists i

-- no entries make empty tables
pub none_is : (kind : TableKind) → empty_of kind ≡ container_of kind []
none_is Map = refl
none_is Set = refl

pub start_is : (shape : List TableKind) → start shape ≡ tables_of shape (no_entries shape)
start_is [] = refl
start_is (kind ∷ shape) = λ i. none_is kind i ∷ start_is shape i

pub no_opening : (shape : List TableKind) → IsOpening shape (no_entries shape)
no_opening shape = record { entries = each shape; few = let e : count_all (no_entries shape) ≡ 0 = none shape in omega (arith, e) }
  where
    each : (shape : List TableKind) → AreEntries shape (no_entries shape)
    each [] = tt
    each (kind ∷ shape) = ((tt, tt), each shape)

    none : (shape : List TableKind) → count_all (no_entries shape) ≡ 0
    none [] = refl
    none (kind ∷ shape) = omega (arith, none shape)

-- ---- values
map_values : (es : List Pair) → AllByRecursion (IsEntry Map) es → AreValues (Bindings (map.from_entries es))
map_values [] h k v g = values_none k v g
map_values (e ∷ es) h k v g = by_key (map_values es h.1 k v) (value_eq k e.0) refl (sym (map.get-insert value_cmp_total (map.from_entries es) e.0 e.1 k) ∙ g)
  where
    by_key : (map.get (map.from_entries {R = value_cmp} es) k ≡ Some v → IsValue k × IsValue v) → (b : Bool) → value_eq k e.0 ≡ b → cond b (Some e.1) (map.get (map.from_entries {R = value_cmp} es) k) ≡ Some v → IsValue k × IsValue v
    by_key rest true i g = (subst IsValue (sym (same_value k e.0 i)) h.0.0, subst IsValue (same_Some e.1 v g) h.0.1)
    by_key rest false i g = rest g

set_values : (es : List Pair) → AllByRecursion (IsEntry Set) es → AreValues (Members (set.from_list (map_list (λ (e : Pair). e.0) es)))
set_values [] h k g = members_none k g
set_values (e ∷ es) h k g = by_key (set_values es h.1 k) (value_eq k e.0) refl (sym (set.contains-insert value_cmp_total (set.from_list (map_list (λ (x : Pair). x.0) es)) e.0 k) ∙ g)
  where
    by_key : (set.contains (set.from_list {R = value_cmp} (map_list (λ (x : Pair). x.0) es)) k ≡ true → IsValue k) → (b : Bool) → value_eq k e.0 ≡ b → (b || set.contains (set.from_list {R = value_cmp} (map_list (λ (x : Pair). x.0) es)) k) ≡ true → IsValue k
    by_key rest true i g = subst IsValue (sym (same_value k e.0 i)) h.0.0
    by_key rest false i g = rest g

pub opening_values : (shape : List TableKind) (lists : List (List Pair)) → AreEntries shape lists → AllByRecursion AreValues (tables_of shape lists)
opening_values [] lists h = tt
opening_values (kind ∷ shape) [] h = absurd h
opening_values (Map ∷ shape) (es ∷ lists) h = (map_values es h.0.0, opening_values shape lists h.1)
opening_values (Set ∷ shape) (es ∷ lists) h = (set_values es h.0.0, opening_values shape lists h.1)

-- ---- sizes
grown : (b : Bool) (a n : ℕ) → n ≤ a → cond b n (n + 1) ≤ a + 1
grown true a n h = omega (arith, h)
grown false a n h = omega (arith, h)

map_size : (es : List Pair) → map.len (map.from_entries {R = value_cmp} es) ≤ length es
map_size [] = let e : map.len (map.empty {X = Value} {R = value_cmp}) ≡ 0 = map.len-empty value_cmp Value in omega (arith, e)
map_size (e ∷ es) = omega (arith, map.len-insert value_cmp_total (map.from_entries es) e.0 e.1, grown (map.contains_key (map.from_entries {R = value_cmp} es) e.0) (length es) (map.len (map.from_entries {R = value_cmp} es)) (map_size es))

set_size : (es : List Pair) → set.len (set.from_list {R = value_cmp} (map_list (λ (e : Pair). e.0) es)) ≤ length es
set_size [] = let e : set.len (set.empty {R = value_cmp}) ≡ 0 = set.len-empty value_cmp in omega (arith, e)
set_size (e ∷ es) = omega (arith, set.len-insert value_cmp_total (set.from_list (map_list (λ (x : Pair). x.0) es)) e.0, grown (set.contains (set.from_list {R = value_cmp} (map_list (λ (x : Pair). x.0) es)) e.0) (length es) (set.len (set.from_list {R = value_cmp} (map_list (λ (x : Pair). x.0) es))) (set_size es))

container_size : (kind : TableKind) (es : List Pair) → size_of (container_of kind es) ≤ length es
container_size Map es = map_size es
container_size Set es = set_size es

-- a table opens with at most as many keys as entries, and all together with few
pub opening_size : (shape : List TableKind) (lists : List (List Pair)) (i : ℕ) → size_of (table (tables_of shape lists) i) ≤ length (entries_of lists i)
opening_size [] [] i = map_size []
opening_size [] (es ∷ lists) i = let e : size_of (empty_of Map) ≡ 0 = map.len-empty value_cmp Value in omega (arith, e)
opening_size (kind ∷ shape) [] zero = container_size kind []
opening_size (kind ∷ shape) [] (suc i) = opening_size shape [] i
opening_size (kind ∷ shape) (es ∷ lists) zero = container_size kind es
opening_size (kind ∷ shape) (es ∷ lists) (suc i) = opening_size shape lists i

pub entries_few : (lists : List (List Pair)) (i : ℕ) → length (entries_of lists i) ≤ count_all lists
entries_few [] i = omega arith
entries_few (es ∷ lists) zero = omega arith
entries_few (es ∷ lists) (suc i) = omega (arith, entries_few lists i)

-- no entries are as many empty lists as there are tables
pub no_entries_are : (shape : List TableKind) → no_entries shape ≡ replicate (length shape) []
no_entries_are [] = refl
no_entries_are (kind ∷ shape) = ap (λ (lists : List (List Pair)). [] ∷ lists) (no_entries_are shape)
