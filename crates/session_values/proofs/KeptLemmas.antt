-- What an opening keeps, and that an entry with a new key keeps it.
use Rattle.std.proofs.Common.{◌≡◌, ℕ, zero, suc, ◌+◌, ◌<◌, ◌≤◌, List, [], ◌∷◌, ◌++◌, length, get_or, replicate, false, ◌||◌, refl, ◌∙◌, ap, arith, length-append, Bool, true, cond, Some, is_some}
use Rattle.std.proofs.lemmas.List.{length-replicate}
use Rattle.std.proofs.lemmas.Bool.{or_parts}
use Rattle.std.specs.List.{AllByRecursion}
use Rattle.session_values.specs.declared.value.Value.{Value}
use Rattle.session_values.specs.declared.value.Value.TheVariants.{Nil}
use Rattle.session_values.specs.declared.kind.TableKind.{TableKind}
use Rattle.session_values.specs.declared.kind.TableKind.TheVariants.{Map, Set}
use Rattle.session_values.specs.Values.{value_eq, value_cmp}
use Rattle.session_values.proofs.Equal.{value_eq-sym}
use Rattle.session_values.proofs.Lists.{all_join}
use Rattle.session_values.proofs.Openings.{entries_few}
use Rattle.session_values.specs.Opening.{Pair, AreApart, AreEntries, AreKept, HaveNil, IsEntry, IsList, IsOpening, IsPair, count_all, entries_of, has_key, with_entry}
use Rattle.std.specs.FinMap.Entries.{find}

-- ---- one table
lacks_push : (es : List Pair) (e : Pair) (k : Value) → has_key es k ≡ false → value_eq k e.0 ≡ false → has_key (es ++ e ∷ []) k ≡ false
lacks_push [] e k a b = ap (λ t. t || false) b
lacks_push (x ∷ es) e k a b =
    let p = or_parts (value_eq k x.0) (has_key es k) a in
    ap (λ t. t || has_key (es ++ e ∷ []) k) p.0 ∙ lacks_push es e k p.1 b

apart_push : (es : List Pair) (e : Pair) → AreApart es → has_key es e.0 ≡ false → AreApart (es ++ e ∷ [])
apart_push [] e a h = (refl, tt)
apart_push (x ∷ es) e a h =
    let p = or_parts (value_eq e.0 x.0) (has_key es e.0) h in
    (lacks_push es e x.0 a.0 (value_eq-sym e.0 x.0 p.0), apart_push es e a.1 p.1)

list_push : (es : List Pair) (e : Pair) → IsList es → has_key es e.0 ≡ false → IsPair e → IsList (es ++ e ∷ [])
list_push es e l h p = (all_join IsPair es (e ∷ []) l.0 (p, tt), apart_push es e l.1 h)

-- ---- all tables
-- the entries of a table are those at its place
pub entries_at : (lists : List (List Pair)) (i : ℕ) (d : List Pair) → i < length lists → get_or lists i d ≡ entries_of lists i
entries_at [] i d h = absurd (omega arith)
entries_at (l ∷ lists) zero d h = refl
entries_at (l ∷ lists) (suc i) d h = entries_at lists i d (omega arith)

each_with : (lists : List (List Pair)) (i : ℕ) (e : Pair) → AllByRecursion IsList lists → has_key (entries_of lists i) e.0 ≡ false → IsPair e → AllByRecursion IsList (with_entry lists i e)
each_with [] i e a h p = tt
each_with (es ∷ lists) zero e a h p = (list_push es e a.0 h p, a.1)
each_with (es ∷ lists) (suc i) e a h p = (a.0, each_with lists i e a.1 h p)

-- one entry more
pub count_with : (lists : List (List Pair)) (i : ℕ) (e : Pair) → i < length lists → count_all (with_entry lists i e) ≡ count_all lists + 1
count_with [] i e h = absurd (omega arith)
count_with (es ∷ lists) zero e h = omega (arith, length-append es (e ∷ []))
count_with (es ∷ lists) (suc i) e h = omega (arith, count_with lists i e (omega arith))

-- and as many tables
pub length_with : (lists : List (List Pair)) (i : ℕ) (e : Pair) → length (with_entry lists i e) ≡ length lists
length_with [] i e = refl
length_with (es ∷ lists) zero e = refl
length_with (es ∷ lists) (suc i) e = ap suc (length_with lists i e)

pub kept_with : (lists : List (List Pair)) (i : ℕ) (e : Pair) → AreKept lists → i < length lists → has_key (entries_of lists i) e.0 ≡ false → IsPair e → count_all lists < 1000000 → AreKept (with_entry lists i e)
kept_with lists i e k within new p few = record {
  each = each_with lists i e k.each new p;
  tables = omega (arith, length_with lists i e, k.tables);
  few = omega (arith, count_with lists i e within);
}

-- no entries keep it
none_kept : (n : ℕ) → AllByRecursion IsList (replicate n [])
none_kept zero = tt
none_kept (suc n) = ((tt, tt), none_kept n)

pub none_counted : (n : ℕ) → count_all (replicate n []) ≡ 0
none_counted zero = refl
none_counted (suc n) = omega (arith, none_counted n)

pub empty_kept : (n : ℕ) → n < 4294967296 → AreKept (replicate n [])
empty_kept n h = record {
  each = none_kept n;
  tables = omega (arith, length-replicate n (the_empty));
  few = omega (arith, none_counted n);
}
  where
    the_empty : List Pair
    the_empty = []

-- ---- openings of tables of these kinds
entries_are : (kind : TableKind) (es : List Pair) → AllByRecursion IsPair es → (kind ≡ Set → AllByRecursion (λ (e : Pair). e.1 ≡ Nil) es) → AllByRecursion (IsEntry kind) es
entries_are kind [] a n = tt
entries_are Map (e ∷ es) a n = (a.0, entries_are Map es a.1 (λ s. cc))
entries_are Set (e ∷ es) a n = ((a.0.0, (n refl).0), entries_are Set es a.1 (λ s. (n refl).1))

pub are_entries : (shape : List TableKind) (lists : List (List Pair)) → AllByRecursion IsList lists → HaveNil shape lists → AreEntries shape lists
are_entries [] [] a n = tt
are_entries [] (es ∷ lists) a n = absurd n
are_entries (kind ∷ shape) [] a n = absurd n
are_entries (Map ∷ shape) (es ∷ lists) a n = ((entries_are Map es a.0.0 (λ s. cc), a.0.1), are_entries shape lists a.1 n)
are_entries (Set ∷ shape) (es ∷ lists) a n = ((entries_are Set es a.0.0 (λ s. n.0), a.0.1), are_entries shape lists a.1 n.1)

pub is_opening : (shape : List TableKind) (lists : List (List Pair)) → AreKept lists → HaveNil shape lists → IsOpening shape lists
is_opening shape lists k n = record { entries = are_entries shape lists k.each n; few = k.few }

-- what stands at a table's place is its entries
pub entries_here : (items lists : List (List Pair)) (i : ℕ) (es : List Pair) → items ≡ lists → i < length lists → es ≡ get_or items i es → es ≡ entries_of lists i
entries_here items lists i es is within at = at ∙ ap (λ (ls : List (List Pair)). get_or ls i es) is ∙ entries_at lists i es within

-- each table has few entries
pub few_each : (lists : List (List Pair)) (i : ℕ) → AreKept lists → length (entries_of lists i) ≤ 1000000
few_each lists i k = omega (arith, entries_few lists i, k.few)

-- ---- a key is found where it stands
pub key_found : (k : Value) (es : List Pair) → is_some (find value_cmp k es) ≡ has_key es k
key_found k [] = refl
key_found k (e ∷ es) = go (value_eq k e.0) (key_found k es)
  where
    go : (b : Bool) → is_some (find value_cmp k es) ≡ has_key es k → is_some (cond b (Some e.1) (find value_cmp k es)) ≡ (b || has_key es k)
    go true h = refl
    go false h = h
