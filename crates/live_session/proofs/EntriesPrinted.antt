-- The entries of a table that can be printed.
use Rattle.std.proofs.Common.{◌≡◌, ℕ, Bool, true, false, cond, ◌||◌, List, [], ◌∷◌, map as map_list, Option, Some, is_some, refl, sym, ◌∙◌, ap, subst}
use Rattle.std.proofs.lemmas.Bool.{false≢true, or_right}
use Rattle.std.specs.FinMap as map
use Rattle.std.specs.FinMap.Entries.{find}
use Rattle.std.specs.FinSet as set
use Rattle.std.specs.List.{AllByRecursion, list_any}
use Rattle.session_values.specs.Tables.{Container}
use Rattle.session_values.specs.Values.{value_cmp, value_cmp_total, value_eq}
use Rattle.session_values.specs.declared.kind.TableKind.{TableKind}
use Rattle.session_values.specs.declared.kind.TableKind.TheVariants.{Map, Set}
use Rattle.session_values.specs.declared.value.Value.{Value}
use Rattle.session_values.proofs.Equal.{same_value, value_eq-self}
use Rattle.session_values.specs.Opening.{AreApart, Pair, container_of, has_key}
use Rattle.session_values.proofs.KeptLemmas.{key_found}
use Rattle.table_lines.specs.Dumped.{IsPrintableEntry}
use Rattle.serve_faults.specs.Printable.{IsPrintableTable}

abbrev keys : List Pair → List Value
keys es = map_list (λ (e : Pair). e.0) es

-- what is found of later entries, each key once, is found of all
pub later : (x e : Pair) (es : List Pair) → has_key es e.0 ≡ false → find value_cmp x.0 es ≡ Some x.1 → find value_cmp x.0 (e ∷ es) ≡ Some x.1
later x e es none at = go (value_eq x.0 e.0) refl
  where
    go : (b : Bool) → value_eq x.0 e.0 ≡ b → cond b (Some e.1) (find value_cmp x.0 es) ≡ Some x.1
    go true same =
        let there : has_key es x.0 ≡ true = sym (key_found x.0 es) ∙ ap is_some at in
        absurd (false≢true (sym none ∙ ap (has_key es) (sym (same_value x.0 e.0 same)) ∙ there))
    go false same = at

bindings_printed : (names : List (List ℕ)) (all es : List Pair) → AreApart es → ((e : Pair) → find value_cmp e.0 es ≡ Some e.1 → find value_cmp e.0 all ≡ Some e.1) → ((k v : Value) → find value_cmp k all ≡ Some v → IsPrintableEntry names Map (k, v)) → AllByRecursion (IsPrintableEntry names Map) es
bindings_printed names all [] a into h = tt
bindings_printed names all (e ∷ es) a into h = (
  h e.0 e.1 (into e (ap (λ (b : Bool). let o : Option Value = cond b (Some e.1) (find value_cmp e.0 es) in o) (value_eq-self e.0))),
  bindings_printed names all es a.1 (λ x at. into x (later x e es a.0 at)) h,
)

members_printed : (names : List (List ℕ)) (all es : List Pair) → ((k : Value) → list_any (value_eq k) (keys es) ≡ true → list_any (value_eq k) (keys all) ≡ true) → ((k : Value) → list_any (value_eq k) (keys all) ≡ true → IsPrintableEntry names Set (k, k)) → AllByRecursion (IsPrintableEntry names Set) es
members_printed names all [] into h = tt
members_printed names all (e ∷ es) into h = (
  h e.0 (into e.0 (ap (λ (b : Bool). b || list_any (value_eq e.0) (keys es)) (value_eq-self e.0))),
  members_printed names all es (λ k at. into k (or_right (value_eq k e.0) (list_any (value_eq k) (keys es)) at)) h,
)

pub entries_printed : (names : List (List ℕ)) (kind : TableKind) (c : Container) (es : List Pair) → AreApart es → container_of kind es ≡ c → IsPrintableTable names c → AllByRecursion (IsPrintableEntry names kind) es
entries_printed names Map c es a is p =
    let held = subst (IsPrintableTable names) (sym is) p in
    bindings_printed names es es a (λ e at. at) (λ k v at. held k v (map.get-from_entries value_cmp_total es k ∙ at))
entries_printed names Set c es a is p =
    let held = subst (IsPrintableTable names) (sym is) p in
    members_printed names es es (λ k at. at) (λ k at. held k (set.contains-from_list value_cmp_total (keys es) k ∙ at))
