-- The entries of tables whose values are readable can be read.
use Rattle.std.proofs.Common.{◌≡◌, Bool, true, false, cond, ◌||◌, T, List, [], ◌∷◌, map as map_list, length, Option, Some, None, refl, sym, ap, ◌∙◌, subst, arith}
use Rattle.std.proofs.lemmas.Bool.{or_right}
use Rattle.std.specs.FinMap as map
use Rattle.std.specs.FinMap.Entries.{below_all, by_order, find, is_sorted, put}
use Rattle.std.specs.FinSet as set
use Rattle.std.specs.List.{AllByRecursion, list_any}
use Rattle.std.specs.Ordering.{is_eq, is_lt}
use Rattle.std.specs.declared.cmp.Ordering.{Ordering}
use Rattle.std.specs.declared.cmp.Ordering.TheVariants.{Less, Equal, Greater}
use Rattle.session_values.proofs.Equal.{same_value, value_eq-self}
use Rattle.session_values.proofs.Lists.{all_join}
use Rattle.session_values.specs.ReplyText.{IsPrintable}
use Rattle.session_values.specs.Tables.{AreValues, Bindings, Container, Members}
use Rattle.session_values.specs.Values.{IsValue, value_cmp, value_eq}
use Rattle.session_values.specs.declared.value.Value.{Value}
use Rattle.session_values.specs.declared.value.Value.TheVariants.{Nil, Num, Sym}
use Rattle.text_lines.specs.Text.{Text}
use Rattle.text_lines.specs.Values.{is_symbol}
use Rattle.serve_faults.specs.Printable.{IsPrintableTable}
use Rattle.table_lines.specs.Reading.{IsReadable}
use Rattle.table_lines.specs.TableText.{all_entries, entries_in, entry_of, member, written_table}
use Rattle.table_lines.specs.Written.{Written, written, written_cmp}
use Rattle.table_lines.proofs.WrittenOrder.{written_cmp_total}
use Rattle.file_laws.proofs.EntryLines.{IsSayable}
use Rattle.serve_faults.proofs.SymbolTexts.{AreSymbols, symbol_named}
use Rattle.table_lines.proofs.NoFault.{true_first, true_second}

-- ---- entries that are put into a list
module _ {K X : Type 0} (R : K → K → Ordering) (P : K → Type 0) (Q : X → Type 0) where
  abbrev Each : List (K × X) → Type 0
  Each es = AllByRecursion (λ (e : K × X). P e.0 × Q e.1) es

  put_by : (o : Ordering) (k : K) (v : X) (e : K × X) (es rest : List (K × X)) → P k → Q v → Each (e ∷ es) → Each rest → Each (by_order o ((k, v) ∷ e ∷ es) ((e.0, v) ∷ es) (e ∷ rest))
  put_by Less k v e es rest p q h r = ((p, q), h)
  put_by Equal k v e es rest p q h r = ((h.0.0, q), h.1)
  put_by Greater k v e es rest p q h r = (h.0, r)

  put_each : (k : K) (v : X) (es : List (K × X)) → P k → Q v → Each es → Each (put R k v es)
  put_each k v [] p q h = ((p, q), tt)
  put_each k v (e ∷ es) p q h = put_by (R k e.0) k v e es (put R k v es) p q h (put_each k v es p q h.1)

  none_each : (es : List (K × X)) → length es ≡ 0 → Each es
  none_each [] e = tt
  none_each (x ∷ es) e = absurd (omega (arith, e))

  no_entries : Each (map.entries (map.empty {X = X} {R = R}))
  no_entries = none_each (map.entries (map.empty {X = X} {R = R})) (sym (map.len-entries (map.empty {X = X} {R = R})) ∙ map.len-empty R X)

written_each : {X : Type 0} (P : Written → Type 0) (Q : X → Type 0) (ps : List (Written × X)) → Each written_cmp P Q ps → Each written_cmp P Q (map.entries (map.from_entries {R = written_cmp} ps))
written_each P Q [] h = no_entries written_cmp P Q
written_each P Q (p ∷ ps) h = subst (Each written_cmp P Q) (sym (map.entries-insert written_cmp_total (map.from_entries ps) p.0 p.1)) (put_each written_cmp P Q p.0 p.1 (map.entries (map.from_entries ps)) h.0.0 h.0.1 (written_each P Q ps h.1))

-- ---- the entries of a table are what it holds

not_below : (k : Value) → T (is_lt (value_cmp k k)) → ⊥
not_below k h = subst (λ (o : Ordering). T (is_lt o)) (self (value_cmp k k) (value_eq-self k)) h
  where
    self : (o : Ordering) → is_eq o ≡ true → o ≡ Equal
    self Less e = cc
    self Equal e = refl
    self Greater e = cc

-- what stands above all keys of a list isn't in it
not_found : {X : Type 0} (k : Value) (v : X) (es : List (Value × X)) → T (below_all value_cmp k es) → find value_cmp k es ≡ Some v → ⊥
not_found k v [] b e = cc
not_found {X} k v (x ∷ es) b e = go (value_eq k x.0) refl e (not_found k v es (true_second (is_lt (value_cmp k x.0)) (below_all value_cmp k es) b))
  where
    go : (t : Bool) → value_eq k x.0 ≡ t → cond t (Some x.1) (find value_cmp k es) ≡ Some v → (find value_cmp k es ≡ Some v → ⊥) → ⊥
    go true same e rest = not_below k (subst (λ (y : Value). T (is_lt (value_cmp k y))) (sym (same_value k x.0 same)) (true_first (is_lt (value_cmp k x.0)) (below_all value_cmp k es) b))
    go false other e rest = rest e

found_each : {X : Type 0} (P : Value → X → Type 0) (es : List (Value × X)) → T (is_sorted value_cmp es) → ((k : Value) (v : X) → find value_cmp k es ≡ Some v → P k v) → AllByRecursion (λ (e : Value × X). P e.0 e.1) es
found_each P [] s h = tt
found_each {X} P (x ∷ es) s h = (
  h x.0 x.1 (ap (λ (b : Bool). let o : Option X = cond b (Some x.1) (find value_cmp x.0 es) in o) (value_eq-self x.0)),
  found_each P es (true_second (below_all value_cmp x.0 es) (is_sorted value_cmp es) s) (λ k v e. h k v (later k v e (value_eq k x.0) refl)),
)
  where
    later : (k : Value) (v : X) → find value_cmp k es ≡ Some v → (b : Bool) → value_eq k x.0 ≡ b → cond b (Some x.1) (find value_cmp k es) ≡ Some v
    later k v e true same = absurd (not_found x.0 v es (true_first (below_all value_cmp x.0 es) (is_sorted value_cmp es) s) (subst (λ (y : Value). find value_cmp y es ≡ Some v) (same_value k x.0 same) e))
    later k v e false other = e

items_each : (P : Value → Type 0) (ks : List Value) → ((k : Value) → list_any (value_eq k) ks ≡ true → P k) → AllByRecursion P ks
items_each P [] h = tt
items_each P (x ∷ ks) h = (h x (ap (λ (b : Bool). b || list_any (value_eq x) ks) (value_eq-self x)), items_each P ks (λ k e. h k (or_right (value_eq k x) (list_any (value_eq k) ks) e)))

-- ---- tables

module _ (names : List Text) (symbols : AreSymbols names) where
  value_readable : (v : Value) → IsValue v → IsPrintable names v → IsReadable (written names v)
  value_readable Nil h p = tt
  value_readable (Num n) h p = h
  value_readable (Sym place) h p = symbol_named names place symbols.each p

  abbrev Says : Value → Type 0
  Says v = IsReadable (written names v)

  map_each : (m : map.FinMap value_cmp Value) → AreValues (Bindings m) → IsPrintableTable names (Bindings m) → AllByRecursion (λ (e : Value × Value). Says e.0 × Says e.1) (map.entries m)
  map_each m a p =
      found_each (λ k v. Says k × Says v) (map.entries m) (map.entries_sorted m)
      (λ k v e. let at : map.get m k ≡ Some v = map.get-entries m k ∙ e in let h = a k v at in let q = p k v at in (value_readable k h.0 q.0, value_readable v h.1 q.1))

  set_each : (s : set.FinSet value_cmp) → AreValues (Members s) → IsPrintableTable names (Members s) → AllByRecursion Says (set.items s)
  set_each s a p = items_each Says (set.items s) (λ k e. let at : set.contains s k ≡ true = set.contains-items s k ∙ e in value_readable k (a k at) (p k at))

  pairs_said : (es : List (Value × Value)) → AllByRecursion (λ (e : Value × Value). Says e.0 × Says e.1) es → Each written_cmp IsReadable IsReadable (map_list (λ (e : Value × Value). (written names e.0, written names e.1)) es)
  pairs_said [] h = tt
  pairs_said (e ∷ es) h = (h.0, pairs_said es h.1)

  keys_said : (ks : List Value) → AllByRecursion Says ks → Each {X = Unit {0}} written_cmp IsReadable (λ u. Unit {0}) (map_list (λ (k : Value). member (written names k)) ks)
  keys_said [] h = tt
  keys_said (k ∷ ks) h = ((h.0, tt), keys_said ks h.1)

  told_pairs : (name : Text) → is_symbol name ≡ true → (es : List (Written × Written)) → Each written_cmp IsReadable IsReadable es → AllByRecursion IsSayable (map_list (λ (e : Written × Written). entry_of name e.0 (Some e.1)) es)
  told_pairs name s [] h = tt
  told_pairs name s (e ∷ es) h = (record { name = s; values = (h.0.0, (h.0.1, tt)) }, told_pairs name s es h.1)

  told_keys : (name : Text) → is_symbol name ≡ true → (es : List (Written × Unit {0})) → Each {X = Unit {0}} written_cmp IsReadable (λ u. Unit {0}) es → AllByRecursion IsSayable (map_list (λ (k : Written). entry_of name k None) (map_list (λ (e : Written × Unit {0}). e.0) es))
  told_keys name s [] h = tt
  told_keys name s (e ∷ es) h = (record { name = s; values = (h.0.0, tt) }, told_keys name s es h.1)

  table_said : (name : Text) → is_symbol name ≡ true → (c : Container) → AreValues c → IsPrintableTable names c → AllByRecursion IsSayable (entries_in name (written_table names c))
  table_said name s (Bindings m) a p =
      let ps : List (Written × Written) = map_list (λ (e : Value × Value). (written names e.0, written names e.1)) (map.entries m) in
      told_pairs name s (map.entries (map.from_entries {R = written_cmp} ps)) (written_each IsReadable IsReadable ps (pairs_said (map.entries m) (map_each m a p)))
  table_said name s (Members t) a p =
      let ps : List (Written × Unit {0}) = map_list (λ (k : Value). member (written names k)) (set.items t) in
      told_keys name s (map.entries (map.from_entries {R = written_cmp} ps)) (written_each IsReadable (λ u. Unit {0}) ps (keys_said (set.items t) (set_each t a p)))

  -- the entries of tables with these names
  pub tables_said : (texts : List Text) (ts : List Container) → AllByRecursion (λ t. is_symbol t ≡ true) texts → AllByRecursion AreValues ts → AllByRecursion (IsPrintableTable names) ts → AllByRecursion IsSayable (all_entries texts (map_list (written_table names) ts))
  tables_said [] ts s a p = tt
  tables_said (t ∷ texts) [] s a p = tt
  tables_said (t ∷ texts) (c ∷ ts) s a p = all_join IsSayable (entries_in t (written_table names c)) (all_entries texts (map_list (written_table names) ts)) (table_said t s.0 c a.0 p.0) (tables_said texts ts s.1 a.1 p.1)
