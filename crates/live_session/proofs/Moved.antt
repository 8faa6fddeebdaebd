-- Tables whose names have other places.
use Rattle.std.proofs.Common.{◌≡◌, ℕ, zero, suc, ◌<◌, ◌≤◌, ◌⊎◌, inl, inr, Bool, true, false, ◌||◌, cond, List, [], ◌∷◌, length, map as map_list, Option, Some, None, slice_get, unwrap_or, refl, sym, ◌∙◌, ap, subst, arith}
use Rattle.std.proofs.lemmas.Bool.{false≢true, or_right, or_parts}
use Rattle.std.specs.FinMap as map
use Rattle.std.specs.FinMap.Entries.{find}
use Rattle.std.specs.FinSet as set
use Rattle.std.specs.List.{AllByRecursion, list_any}
use Rattle.session_values.specs.Names.{AreDistinct, IsNamed}
use Rattle.session_values.specs.ReplyText.{IsPrintable}
use Rattle.session_values.specs.Values.{value_cmp, value_cmp_total, value_eq}
use Rattle.session_values.specs.declared.kind.TableKind.{TableKind}
use Rattle.session_values.specs.declared.kind.TableKind.TheVariants.{Map, Set}
use Rattle.session_values.specs.declared.value.Value.{Value}
use Rattle.session_values.specs.declared.value.Value.TheVariants.{Nil, Num, Sym}
use Rattle.session_values.proofs.Equal.{same_value, value_eq-self}
use Rattle.session_values.specs.Opening.{AreApart, AreEntries, HaveNil, IsEntry, IsPair, Pair, container_of, has_key, tables_of}
use Rattle.session_values.specs.Tables.{Container, Tables, table}
use Rattle.table_lines.specs.Dumped.{IsPrintableEntry}
use Rattle.table_lines.specs.Listed.{HavePrintableKeys, WrittenPair, written_of, written_pair}
use Rattle.table_lines.specs.TableRows.{ArePrintable}
use Rattle.table_lines.specs.TableText.{written_table}
use Rattle.table_lines.specs.Written.{Written, SymbolWord, written}
use Rattle.table_lines.proofs.Listing.{written_is}
use Rattle.live_session.specs.Moving.{HasName, moved, moved_entries, moved_pair}
use Rattle.live_session.specs.Renewing.{AreMoved, HoldsName, IsMoved}
use Rattle.live_session.proofs.EntriesPrinted.{later}
use Rattle.live_session.proofs.Kept.{HasNameIn}

abbrev keys : List Pair → List Value
keys es = map_list (λ (e : Pair). e.0) es

-- where a value is a symbol, this holds of its name
abbrev pub IsNameOf : (ℕ → Type 0) → Value → Type 0
IsNameOf P Nil = Unit {0}
IsNameOf P (Num n) = Unit {0}
IsNameOf P (Sym p) = P p

abbrev pub NamesOf : (ℕ → Type 0) → List Pair → Type 0
NamesOf P es = AllByRecursion (λ (e : Pair). IsNameOf P e.0 × IsNameOf P e.1) es

name_of : (P : ℕ → Type 0) (x : Value) → ((i : ℕ) → x ≡ Sym i → P i) → IsNameOf P x
name_of P Nil h = tt
name_of P (Num n) h = tt
name_of P (Sym p) h = h p refl

-- what holds of all names of entries
pub names_of_entries : (P : ℕ → Type 0) (es : List Pair) → ((i : ℕ) → HasName es i → P i) → NamesOf P es
names_of_entries P [] h = tt
names_of_entries P (e ∷ es) h = (
  (name_of P e.0 (λ i k. h i (inl (inl k))), name_of P e.1 (λ i k. h i (inl (inr k)))),
  names_of_entries P es (λ i k. h i (inr k)),
)

sym_same : (p q : ℕ) → ◌≡◌ {A = Value} (Sym p) (Sym q) → p ≡ q
sym_same p q e = cc

some_same : (x y : Value) → ◌≡◌ {A = Option Value} (Some x) (Some y) → x ≡ y
some_same x y e = cc

-- the entry from which one with this key and this value moved
record Back (f : ℕ → ℕ) (es : List Pair) (k v : Value) : Type 0 where
  key : Value
  value : Value
  at : find value_cmp key es ≡ Some value
  key_is : k ≡ moved f key
  value_is : v ≡ moved f value

-- the member from which this one moved
record Member (f : ℕ → ℕ) (es : List Pair) (k : Value) : Type 0 where
  key : Value
  at : list_any (value_eq key) (keys es) ≡ true
  key_is : k ≡ moved f key

module _ (P : ℕ → Type 0) (f : ℕ → ℕ) (one : (i j : ℕ) → P i → P j → f i ≡ f j → i ≡ j) where
  same_moved : (x y : Value) → IsNameOf P x → IsNameOf P y → moved f x ≡ moved f y → x ≡ y
  same_moved Nil Nil a b e = refl
  same_moved Nil (Num m) a b e = cc
  same_moved Nil (Sym q) a b e = cc
  same_moved (Num n) Nil a b e = cc
  same_moved (Num n) (Num m) a b e = e
  same_moved (Num n) (Sym q) a b e = cc
  same_moved (Sym p) Nil a b e = cc
  same_moved (Sym p) (Num m) a b e = cc
  same_moved (Sym p) (Sym q) a b e = ap Sym (one p q a b (sym_same (f p) (f q) e))

  -- values that differ move apart
  apart_moved : (x y : Value) → IsNameOf P x → IsNameOf P y → value_eq x y ≡ false → value_eq (moved f x) (moved f y) ≡ false
  apart_moved x y a b d = go (value_eq (moved f x) (moved f y)) refl
    where
      go : (c : Bool) → value_eq (moved f x) (moved f y) ≡ c → value_eq (moved f x) (moved f y) ≡ false
      go false e = e
      go true e =
          let same : x ≡ y = same_moved x y a b (same_value (moved f x) (moved f y) e) in
          absurd (false≢true (sym d ∙ ap (λ (z : Value). value_eq x z) (sym same) ∙ value_eq-self x))

  -- ---- keys that stand apart
  lacks_moved : (es : List Pair) (k : Value) → NamesOf P es → IsNameOf P k → has_key es k ≡ false → has_key (moved_entries f es) (moved f k) ≡ false
  lacks_moved [] k n a h = refl
  lacks_moved (e ∷ es) k n a h =
      let p = or_parts (value_eq k e.0) (has_key es k) h in
      ap (λ (b : Bool). b || has_key (moved_entries f es) (moved f k)) (apart_moved k e.0 a n.0.0 p.0) ∙ lacks_moved es k n.1 a p.1

  pub entries_apart : (es : List Pair) → NamesOf P es → AreApart es → AreApart (moved_entries f es)
  entries_apart [] n a = tt
  entries_apart (e ∷ es) n a = (lacks_moved es e.0 n.1 n.0.0 a.0, entries_apart es n.1 a.1)

  -- ---- bindings
  found_name : (es : List Pair) (k v : Value) → NamesOf P es → find value_cmp k es ≡ Some v → IsNameOf P k
  found_name [] k v n h = cc
  found_name (e ∷ es) k v n h = go (value_eq k e.0) refl h (found_name es k v n.1)
    where
      go : (b : Bool) → value_eq k e.0 ≡ b → cond b (Some e.1) (find value_cmp k es) ≡ Some v → (find value_cmp k es ≡ Some v → IsNameOf P k) → IsNameOf P k
      go true e0 h more = subst (IsNameOf P) (sym (same_value k e.0 e0)) n.0.0
      go false e0 h more = more h

  found_moved : (es : List Pair) (k v : Value) → NamesOf P es → IsNameOf P k → find value_cmp k es ≡ Some v → find value_cmp (moved f k) (moved_entries f es) ≡ Some (moved f v)
  found_moved [] k v n a h = cc
  found_moved (e ∷ es) k v n a h = go (value_eq k e.0) refl h (found_moved es k v n.1 a)
    where
      go : (b : Bool) → value_eq k e.0 ≡ b → cond b (Some e.1) (find value_cmp k es) ≡ Some v → (find value_cmp k es ≡ Some v → (find value_cmp (moved f k) (moved_entries f es)) ≡ Some (moved f v)) → cond (value_eq (moved f k) (moved f e.0)) (Some (moved f e.1)) (find value_cmp (moved f k) (moved_entries f es)) ≡ Some (moved f v)
      go true e0 h more =
          let same : k ≡ e.0 = same_value k e.0 e0 in
          let here : value_eq (moved f k) (moved f e.0) ≡ true = ap (λ (z : Value). value_eq (moved f k) (moved f z)) (sym same) ∙ value_eq-self (moved f k) in
          ap (λ (c : Bool). cond c (Some (moved f e.1)) (find value_cmp (moved f k) (moved_entries f es))) here ∙ ap (λ (z : Value). Some (moved f z)) (some_same e.1 v h)
      go false e0 h more = ap (λ (c : Bool). cond c (Some (moved f e.1)) (find value_cmp (moved f k) (moved_entries f es))) (apart_moved k e.0 a n.0.0 e0) ∙ more h

  -- ---- the whole table
  pub map_moved : (es : List Pair) → NamesOf P es → IsMoved f (container_of Map es) (container_of Map (moved_entries f es))
  map_moved es n = (
    λ k v g.
        let h : find value_cmp k es ≡ Some v = sym (map.get-from_entries value_cmp_total es k) ∙ g in
        map.get-from_entries value_cmp_total (moved_entries f es) (moved f k) ∙ found_moved es k v n (found_name es k v n h) h,
    λ k v g.
        let b = back es k v (sym (map.get-from_entries value_cmp_total (moved_entries f es) k) ∙ g) in
        (b.key, b.value, map.get-from_entries value_cmp_total es b.key ∙ b.at, b.key_is, b.value_is),
  )
    where
      back : (es : List Pair) (k v : Value) → find value_cmp k (moved_entries f es) ≡ Some v → Back f es k v
      back [] k v h = cc
      back (e ∷ es) k v h = go (value_eq k (moved f e.0)) refl h (back es k v)
        where
          further : (d : Bool) (r : Back f es k v) → value_eq k (moved f e.0) ≡ false → value_eq r.key e.0 ≡ d → Back f (e ∷ es) k v
          further false r none d = record { key = r.key; value = r.value; at = ap (λ (c : Bool). let o : Option Value = cond c (Some e.1) (find value_cmp r.key es) in o) d ∙ r.at; key_is = r.key_is; value_is = r.value_is }
          further true r none d =
              let same : k ≡ moved f e.0 = r.key_is ∙ ap (moved f) (same_value r.key e.0 d) in
              absurd (false≢true (sym none ∙ ap (λ (z : Value). value_eq k z) (sym same) ∙ value_eq-self k))

          go : (b : Bool) → value_eq k (moved f e.0) ≡ b → cond b (Some (moved f e.1)) (find value_cmp k (moved_entries f es)) ≡ Some v → (find value_cmp k (moved_entries f es) ≡ Some v → Back f es k v) → Back f (e ∷ es) k v
          go true e0 h more = record {
            key = e.0;
            value = e.1;
            at = ap (λ (c : Bool). let o : Option Value = cond c (Some e.1) (find value_cmp e.0 es) in o) (value_eq-self e.0);
            key_is = same_value k (moved f e.0) e0;
            value_is = sym (some_same (moved f e.1) v h);
          }
          go false e0 h more = let r = more h in further (value_eq r.key e.0) r e0 refl

-- ---- members
module _ (f : ℕ → ℕ) where
  member_moved : (es : List Pair) (k : Value) → list_any (value_eq k) (keys es) ≡ true → list_any (value_eq (moved f k)) (keys (moved_entries f es)) ≡ true
  member_moved [] k h = absurd (false≢true h)
  member_moved (e ∷ es) k h = go (value_eq k e.0) refl h (member_moved es k)
    where
      go : (b : Bool) → value_eq k e.0 ≡ b → (b || list_any (value_eq k) (keys es)) ≡ true → (list_any (value_eq k) (keys es) ≡ true → list_any (value_eq (moved f k)) (keys (moved_entries f es)) ≡ true) → (value_eq (moved f k) (moved f e.0) || list_any (value_eq (moved f k)) (keys (moved_entries f es))) ≡ true
      go true e0 h more =
          let here : value_eq (moved f k) (moved f e.0) ≡ true = ap (λ (z : Value). value_eq (moved f k) (moved f z)) (sym (same_value k e.0 e0)) ∙ value_eq-self (moved f k) in
          ap (λ (c : Bool). c || list_any (value_eq (moved f k)) (keys (moved_entries f es))) here
      go false e0 h more = or_right (value_eq (moved f k) (moved f e.0)) (list_any (value_eq (moved f k)) (keys (moved_entries f es))) (more h)

  member_back : (es : List Pair) (k : Value) → list_any (value_eq k) (keys (moved_entries f es)) ≡ true → Member f es k
  member_back [] k h = absurd (false≢true h)
  member_back (e ∷ es) k h = go (value_eq k (moved f e.0)) refl h (member_back es k)
    where
      go : (b : Bool) → value_eq k (moved f e.0) ≡ b → (b || list_any (value_eq k) (keys (moved_entries f es))) ≡ true → (list_any (value_eq k) (keys (moved_entries f es)) ≡ true → Member f es k) → Member f (e ∷ es) k
      go true e0 h more = record { key = e.0; at = ap (λ (c : Bool). c || list_any (value_eq e.0) (keys es)) (value_eq-self e.0); key_is = same_value k (moved f e.0) e0 }
      go false e0 h more = let r = more h in record { key = r.key; at = or_right (value_eq r.key e.0) (list_any (value_eq r.key) (keys es)) r.at; key_is = r.key_is }

  set_moved : (es : List Pair) → IsMoved f (container_of Set es) (container_of Set (moved_entries f es))
  set_moved es = (
    λ k g. set.contains-from_list value_cmp_total (keys (moved_entries f es)) (moved f k) ∙ member_moved es k (sym (set.contains-from_list value_cmp_total (keys es) k) ∙ g),
    λ k g.
        let b = member_back es k (sym (set.contains-from_list value_cmp_total (keys (moved_entries f es)) k) ∙ g) in
        (b.key, set.contains-from_list value_cmp_total (keys es) b.key ∙ b.at, b.key_is),
  )

-- ---- table by table
module _ (P : ℕ → Type 0) (f : ℕ → ℕ) (one : (i j : ℕ) → P i → P j → f i ≡ f j → i ≡ j) where
  table_moved : (kind : TableKind) (es : List Pair) → NamesOf P es → IsMoved f (container_of kind es) (container_of kind (moved_entries f es))
  table_moved Map es n = map_moved P f one es n
  table_moved Set es n = set_moved f es

  no_names : NamesOf P []
  no_names = tt

  pub tables_moved : (shape : List TableKind) (lists : List (List Pair)) → AllByRecursion (NamesOf P) lists → AreMoved f (tables_of shape lists) (tables_of shape (map_list (moved_entries f) lists))
  tables_moved [] lists n = tt
  tables_moved (k ∷ shape) [] n = (table_moved k [] no_names, tables_moved shape [] tt)
  tables_moved (k ∷ shape) (es ∷ lists) n = (table_moved k es n.0, tables_moved shape lists n.1)

  entry_kept : (kind : TableKind) (e : Pair) → (kind ≡ Set → e.1 ≡ Nil) → IsPair (moved_pair f e) → IsEntry kind (moved_pair f e)
  entry_kept Map e n p = p
  entry_kept Set e n p = (p.0, ap (moved f) (n refl))

  each_kept : (kind : TableKind) (es : List Pair) → (kind ≡ Set → AllByRecursion (λ (e : Pair). e.1 ≡ Nil) es) → AllByRecursion IsPair (moved_entries f es) → AllByRecursion (IsEntry kind) (moved_entries f es)
  each_kept kind [] n p = tt
  each_kept kind (e ∷ es) n p = (entry_kept kind e (λ s. (n s).0) p.0, each_kept kind es (λ s. (n s).1) p.1)

  map_set : ◌≡◌ {A = TableKind} Map Set → ⊥
  map_set e = cc

  pub entries_moved : (shape : List TableKind) (lists : List (List Pair)) → HaveNil shape lists → AllByRecursion (NamesOf P) lists → AllByRecursion AreApart lists → AllByRecursion (AllByRecursion IsPair) (map_list (moved_entries f) lists) → AreEntries shape (map_list (moved_entries f) lists)
  entries_moved [] [] h n a p = tt
  entries_moved [] (es ∷ lists) h n a p = absurd h
  entries_moved (k ∷ shape) [] h n a p = absurd h
  entries_moved (Map ∷ shape) (es ∷ lists) h n a p = ((each_kept Map es (λ s. absurd (map_set s)) p.0, entries_apart P f one es n.0 a.0), entries_moved shape lists h n.1 a.1 p.1)
  entries_moved (Set ∷ shape) (es ∷ lists) h n a p = ((each_kept Set es (λ s. h.0) p.0, entries_apart P f one es n.0 a.0), entries_moved shape lists h.1 n.1 a.1 p.1)

-- ---- names that are held
-- a name that entries have is one that their container holds
record Bound (es : List Pair) (i : ℕ) : Type 0 where
  entry : Pair
  at : find value_cmp entry.0 es ≡ Some entry.1
  is : (entry.0 ≡ Sym i) ⊎ (entry.1 ≡ Sym i)

bound : (es : List Pair) (i : ℕ) → AreApart es → HasName es i → Bound es i
bound [] i a h = absurd h
bound (e ∷ es) i a (inl h) = record { entry = e; at = ap (λ (c : Bool). let o : Option Value = cond c (Some e.1) (find value_cmp e.0 es) in o) (value_eq-self e.0); is = h }
bound (e ∷ es) i a (inr h) = let b = bound es i a.1 h in record { entry = b.entry; at = later b.entry e es a.0 b.at; is = b.is }

nil_name : (v : Value) (i : ℕ) → v ≡ Nil → v ≡ Sym i → ⊥
nil_name v i a b = cc

member_of : (es : List Pair) (i : ℕ) → AllByRecursion (λ (e : Pair). e.1 ≡ Nil) es → HasName es i → list_any (value_eq (Sym i)) (keys es) ≡ true
member_of [] i n h = absurd h
member_of (e ∷ es) i n (inl (inl k)) = ap (λ (c : Bool). c || list_any (value_eq (Sym i)) (keys es)) (ap (λ (z : Value). value_eq (Sym i) z) k ∙ value_eq-self (Sym i))
member_of (e ∷ es) i n (inl (inr k)) = absurd (nil_name e.1 i n.0 k)
member_of (e ∷ es) i n (inr k) = or_right (value_eq (Sym i) e.0) (list_any (value_eq (Sym i)) (keys es)) (member_of es i n.1 k)

name_found : (es : List Pair) (k v : Value) (i : ℕ) → find value_cmp k es ≡ Some v → (k ≡ Sym i) ⊎ (v ≡ Sym i) → HasName es i
name_found [] k v i g h = cc
name_found (e ∷ es) k v i g h = go (value_eq k e.0) refl g (λ x. name_found es k v i x h)
  where
    here : k ≡ e.0 → e.1 ≡ v → (k ≡ Sym i) ⊎ (v ≡ Sym i) → HasName (e ∷ es) i
    here a b (inl x) = inl (inl (sym a ∙ x))
    here a b (inr x) = inl (inr (b ∙ x))

    go : (b : Bool) → value_eq k e.0 ≡ b → cond b (Some e.1) (find value_cmp k es) ≡ Some v → (find value_cmp k es ≡ Some v → HasName es i) → HasName (e ∷ es) i
    go true e0 g more = here (same_value k e.0 e0) (some_same e.1 v g) h
    go false e0 g more = inr (more g)

name_member : (es : List Pair) (i : ℕ) → list_any (value_eq (Sym i)) (keys es) ≡ true → HasName es i
name_member [] i h = absurd (false≢true h)
name_member (e ∷ es) i h = go (value_eq (Sym i) e.0) refl h (name_member es i)
  where
    go : (b : Bool) → value_eq (Sym i) e.0 ≡ b → (b || list_any (value_eq (Sym i)) (keys es)) ≡ true → (list_any (value_eq (Sym i)) (keys es) ≡ true → HasName es i) → HasName (e ∷ es) i
    go true e0 h more = inl (inl (sym (same_value (Sym i) e.0 e0)))
    go false e0 h more = inr (more h)

holds_map : (es : List Pair) (i : ℕ) → AreApart es → HasName es i → HoldsName (container_of Map es) i
holds_map es i a h = let b = bound es i a h in (b.entry.0, b.entry.1, map.get-from_entries value_cmp_total es b.entry.0 ∙ b.at, b.is)

holds_set : (es : List Pair) (i : ℕ) → AllByRecursion (λ (e : Pair). e.1 ≡ Nil) es → HasName es i → HoldsName (container_of Set es) i
holds_set es i n h = set.contains-from_list value_cmp_total (keys es) (Sym i) ∙ member_of es i n h

has_held : (kind : TableKind) (es : List Pair) (i : ℕ) → HoldsName (container_of kind es) i → HasName es i
has_held Map es i h = name_found es h.0 h.1 i (sym (map.get-from_entries value_cmp_total es h.0) ∙ h.2) h.3
has_held Set es i h = name_member es i (sym (set.contains-from_list value_cmp_total (keys es) (Sym i)) ∙ h)

-- a table holds the name
pub record InTable (ts : Tables) (i : ℕ) : Type 0 where
  pub number : ℕ
  pub within : number < length ts
  pub holds : HoldsName (table ts number) i

further : (c : Container) (ts : Tables) (i : ℕ) → InTable ts i → InTable (c ∷ ts) i
further c ts i t = record { number = suc t.number; within = (let l = t.within in omega (arith, l)); holds = t.holds }

pub in_table : (shape : List TableKind) (lists : List (List Pair)) (i : ℕ) → HaveNil shape lists → AllByRecursion AreApart lists → HasNameIn lists i → InTable (tables_of shape lists) i
in_table [] [] i n a h = absurd h
in_table [] (es ∷ lists) i n a h = absurd n
in_table (k ∷ shape) [] i n a h = absurd n
in_table (Map ∷ shape) (es ∷ lists) i n a (inl h) = record { number = 0; within = omega arith; holds = holds_map es i a.0 h }
in_table (Set ∷ shape) (es ∷ lists) i n a (inl h) = record { number = 0; within = omega arith; holds = holds_set es i n.0 h }
in_table (Map ∷ shape) (es ∷ lists) i n a (inr h) = further (container_of Map es) (tables_of shape lists) i (in_table shape lists i n a.1 h)
in_table (Set ∷ shape) (es ∷ lists) i n a (inr h) = further (container_of Set es) (tables_of shape lists) i (in_table shape lists i n.1 a.1 h)

pub has_in : (shape : List TableKind) (lists : List (List Pair)) (i t : ℕ) → t < length (tables_of shape lists) → HoldsName (table (tables_of shape lists) t) i → HasNameIn lists i
has_in [] lists i t l h = absurd (omega (arith, l))
has_in (k ∷ shape) [] i zero l h = absurd (has_held k [] i h)
has_in (k ∷ shape) [] i (suc t) l h = has_in shape [] i t (omega (arith, l)) h
has_in (k ∷ shape) (es ∷ lists) i zero l h = inl (has_held k es i h)
has_in (k ∷ shape) (es ∷ lists) i (suc t) l h = inr (has_in shape lists i t (omega (arith, l)) h)

-- ---- texts
module _ (P : ℕ → Type 0) (f : ℕ → ℕ) (old new : List (List ℕ)) (texts : (i : ℕ) → P i → slice_get new (f i) ≡ slice_get old i) where
  same_written : (x : Value) → IsNameOf P x → written new (moved f x) ≡ written old x
  same_written Nil a = refl
  same_written (Num n) a = refl
  same_written (Sym p) a = ap (λ (o : Option (List ℕ)). SymbolWord (unwrap_or o [])) (texts p a)

  pairs_written : (es : List Pair) → NamesOf P es → map_list (written_pair new) (moved_entries f es) ≡ map_list (written_pair old) es
  pairs_written [] n = refl
  pairs_written (e ∷ es) n =
      let a = same_written e.0 n.0.0 in
      let b = same_written e.1 n.0.1 in
      let more = pairs_written es n.1 in
      λ i. (a i, b i) ∷ more i

  still_printable : (x : Value) → IsNameOf P x → IsPrintable old x → IsPrintable new (moved f x)
  still_printable Nil a h = tt
  still_printable (Num n) a h = tt
  still_printable (Sym p) a h = record { text = h.text; at = texts p a ∙ h.at; short = h.short }

  entry_printable : (kind : TableKind) (e : Pair) → (kind ≡ Set → e.1 ≡ Nil) → IsNameOf P e.0 → IsNameOf P e.1 → IsPrintableEntry old kind e → IsPrintable new (moved f e.0) × IsPrintable new (moved f e.1)
  entry_printable Map e n a b h = (still_printable e.0 a h.0, still_printable e.1 b h.1)
  entry_printable Set e n a b h = (still_printable e.0 a h, subst (λ (x : Value). IsPrintable new (moved f x)) (sym (n refl)) tt)

  pub list_printable : (kind : TableKind) (es : List Pair) → (kind ≡ Set → AllByRecursion (λ (e : Pair). e.1 ≡ Nil) es) → NamesOf P es → AllByRecursion (IsPrintableEntry old kind) es → AllByRecursion (λ (e : Pair). IsPrintable new e.0 × IsPrintable new e.1) (moved_entries f es)
  list_printable kind [] n a h = tt
  list_printable kind (e ∷ es) n a h = (entry_printable kind e (λ s. (n s).0) a.0.0 a.0.1 h.0, list_printable kind es (λ s. (n s).1) a.1 h.1)

  keys_printable : (es : List Pair) → AllByRecursion (λ (e : Pair). IsPrintable new e.0 × IsPrintable new e.1) es → HavePrintableKeys new es
  keys_printable [] h = tt
  keys_printable (e ∷ es) h = (h.0.0, keys_printable es h.1)

  keys_before : (kind : TableKind) (es : List Pair) → AllByRecursion (IsPrintableEntry old kind) es → HavePrintableKeys old es
  keys_before kind [] h = tt
  keys_before Map (e ∷ es) h = (h.0.0, keys_before Map es h.1)
  keys_before Set (e ∷ es) h = (h.0, keys_before Set es h.1)

  -- a table is written as before
  pub table_written : (kind : TableKind) (es : List Pair) → AreDistinct old → AreDistinct new → (kind ≡ Set → AllByRecursion (λ (e : Pair). e.1 ≡ Nil) es) → NamesOf P es → AllByRecursion (IsPrintableEntry old kind) es → written_table new (container_of kind (moved_entries f es)) ≡ written_table old (container_of kind es)
  table_written kind es d e n a h =
      written_is new kind (moved_entries f es) e (keys_printable (moved_entries f es) (list_printable kind es n a h))
      ∙ ap (written_of kind) (pairs_written es a)
      ∙ sym (written_is old kind es d (keys_before kind es h))
