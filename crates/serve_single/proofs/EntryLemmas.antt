-- The entries of a table that can be printed.
use Rattle.std.proofs.Common.{◌≡◌, ℕ, Bool, true, false, cond, ◌||◌, List, [], ◌∷◌, map as map_list, Option, Some, refl, sym, ◌∙◌, ap, subst}
use Rattle.std.proofs.lemmas.Bool.{or_right}
use Rattle.std.specs.FinMap as map
use Rattle.std.specs.FinMap.Entries.{find}
use Rattle.std.specs.FinSet as set
use Rattle.std.specs.List.{AllByRecursion, list_any}
use Rattle.session_journal.specs.Opening.{Pair, AreApart, container_of, has_key}
use Rattle.session_values.specs.Tables.{Container}
use Rattle.session_values.specs.Values.{value_cmp, value_cmp_total, value_eq}
use Rattle.session_values.specs.declared.kind.TableKind.{TableKind}
use Rattle.session_values.specs.declared.kind.TableKind.TheVariants.{Map, Set}
use Rattle.session_values.specs.declared.value.Value.{Value}
use Rattle.session_values.proofs.Equal.{same_value, value_eq-self}
use Rattle.serve_faults.specs.Printable.{IsPrintableTable}
use Rattle.table_lines.specs.Dumped.{IsPrintableEntry}

missing : (es : List Pair) (k v : Value) → has_key es k ≡ false → find value_cmp k es ≡ Some v → ⊥
missing [] k v none at = cc
missing (e ∷ es) k v none at = go (value_eq k e.0) none at (missing es k v)
  where
    go : (b : Bool) → (b || has_key es k) ≡ false → cond b (Some e.1) (find value_cmp k es) ≡ Some v → (has_key es k ≡ false → find value_cmp k es ≡ Some v → ⊥) → ⊥
    go true none at rest = cc
    go false none at rest = rest none at

printable_map : (names : List (List ℕ)) (all es : List Pair) → AreApart es → ((e : Pair) → find value_cmp e.0 es ≡ Some e.1 → find value_cmp e.0 all ≡ Some e.1) → ((k v : Value) → find value_cmp k all ≡ Some v → IsPrintableEntry names Map (k, v)) → AllByRecursion (IsPrintableEntry names Map) es
printable_map names all [] a into h = tt
printable_map names all (e ∷ es) a into h = (
  h e.0 e.1 (into e (ap (λ (b : Bool). let o : Option Value = cond b (Some e.1) (find value_cmp e.0 es) in o) (value_eq-self e.0))),
  printable_map names all es a.1 (λ x at. into x (later x e es a.0 at)) h,
)
  where
    later : (x e : Pair) (es : List Pair) → has_key es e.0 ≡ false → find value_cmp x.0 es ≡ Some x.1 → find value_cmp x.0 (e ∷ es) ≡ Some x.1
    later x e es none at = go (value_eq x.0 e.0) refl
      where
        go : (b : Bool) → value_eq x.0 e.0 ≡ b → cond b (Some e.1) (find value_cmp x.0 es) ≡ Some x.1
        go true same = absurd (missing es e.0 x.1 none (subst (λ (k : Value). find value_cmp k es ≡ Some x.1) (same_value x.0 e.0 same) at))
        go false same = at

printable_set : (names : List (List ℕ)) (all es : List Pair) → ((k : Value) → list_any (value_eq k) (map_list (λ (e : Pair). e.0) es) ≡ true → list_any (value_eq k) (map_list (λ (e : Pair). e.0) all) ≡ true) → ((k : Value) → list_any (value_eq k) (map_list (λ (e : Pair). e.0) all) ≡ true → IsPrintableEntry names Set (k, k)) → AllByRecursion (IsPrintableEntry names Set) es
printable_set names all [] into h = tt
printable_set names all (e ∷ es) into h = (
  h e.0 (into e.0 (ap (λ (b : Bool). b || list_any (value_eq e.0) (map_list (λ (x : Pair). x.0) es)) (value_eq-self e.0))),
  printable_set names all es (λ k at. into k (or_right (value_eq k e.0) (list_any (value_eq k) (map_list (λ (x : Pair). x.0) es)) at)) h,
)

pub entries_printable : (names : List (List ℕ)) (kind : TableKind) (c : Container) (es : List Pair) → AreApart es → container_of kind es ≡ c → IsPrintableTable names c → AllByRecursion (IsPrintableEntry names kind) es
entries_printable names Map c es a is p =
    let held = subst (IsPrintableTable names) (sym is) p in
    printable_map names es es a (λ e at. at) (λ k v at. held k v (map.get-from_entries value_cmp_total es k ∙ at))
entries_printable names Set c es a is p =
    let held = subst (IsPrintableTable names) (sym is) p in
    printable_set names es es (λ k at. at) (λ k at. held k (set.contains-from_list value_cmp_total (map_list (λ (e : Pair). e.0) es) k ∙ at))
