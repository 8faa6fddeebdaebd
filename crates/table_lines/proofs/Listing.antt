-- Tables whose entries are listed: how they are written, and in which order.
use Rattle.std.proofs.Common.{◌≡◌, ℕ, Bool, true, false, cond, ◌||◌, List, [], ◌∷◌, map as map_list, Option, Some, None, slice_get, refl, sym, ◌∙◌, ap, subst}
use Rattle.std.proofs.lemmas.List.{nil_from_length}
use Rattle.std.proofs.lemmas.Bool.{or_right}
use Rattle.std.specs.Cmp.{Equal-is, tied_itself}
use Rattle.std.specs.FinMap as map
use Rattle.std.specs.FinMap.Entries.{by_order, find, put}
use Rattle.std.specs.FinSet as set
use Rattle.std.specs.List.{AllByRecursion, list_any}
use Rattle.std.specs.Option.{unwrap_or}
use Rattle.std.specs.Ordering.{eq_by_cmp}
use Rattle.std.specs.declared.cmp.Ordering.{Ordering}
use Rattle.std.specs.declared.cmp.Ordering.TheVariants.{Less, Equal, Greater}
use Rattle.session_values.specs.Opening.{Pair, container_of}
use Rattle.session_values.specs.Names.{AreDistinct}
use Rattle.session_values.specs.ReplyText.{IsPrintable}
use Rattle.session_values.specs.Values.{value_cmp, value_cmp_total, value_cmp-IsAntisymmetric, value_eq}
use Rattle.session_values.specs.declared.kind.TableKind.{TableKind}
use Rattle.session_values.specs.declared.kind.TableKind.TheVariants.{Map, Set}
use Rattle.session_values.specs.declared.value.Value.{Value}
use Rattle.session_values.specs.declared.value.Value.TheVariants.{Nil, Num, Sym}
use Rattle.session_values.proofs.Equal.{same_value, value_eq-self}
use Rattle.table_lines.specs.Listed.{AreRising, HavePrintableKeys, WrittenPair, entries_told, keys_of, written_of, written_pair}
use Rattle.table_lines.specs.TableText.{Entry, WrittenMap, WrittenSet, entries_in, entry_of, member, written_table}
use Rattle.table_lines.specs.Written.{Written, NumberWord, SymbolWord, text_at, written, written_cmp}
use Rattle.table_lines.proofs.WrittenOrder.{written_cmp_exact, written_cmp_total}

-- ---- different values are written differently
number_same : (x y : _) → ◌≡◌ {A = Written} (NumberWord x) (NumberWord y) → x ≡ y
number_same x y e = cc

symbol_same : (t u : List ℕ) → ◌≡◌ {A = Written} (SymbolWord t) (SymbolWord u) → t ≡ u
symbol_same t u e = cc

text_is : (names : List (List ℕ)) (p : ℕ) (t : List ℕ) → slice_get names p ≡ Some t → text_at names p ≡ t
text_is names p t h = ap (λ (o : Option (List ℕ)). unwrap_or o []) h

pub one_value : (names : List (List ℕ)) (x y : Value) → AreDistinct names → IsPrintable names x → IsPrintable names y → written names x ≡ written names y → x ≡ y
one_value names Nil Nil d a b e = refl
one_value names Nil (Num y) d a b e = cc
one_value names Nil (Sym q) d a b e = cc
one_value names (Num x) Nil d a b e = cc
one_value names (Num x) (Num y) d a b e = ap Num (number_same x y e)
one_value names (Num x) (Sym q) d a b e = cc
one_value names (Sym p) Nil d a b e = cc
one_value names (Sym p) (Num y) d a b e = cc
one_value names (Sym p) (Sym q) d a b e =
    let same : a.text ≡ b.text = sym (text_is names p a.text a.at) ∙ symbol_same _ _ e ∙ text_is names q b.text b.at in
    ap Sym (d p q b.text (a.at ∙ ap (λ (t : List ℕ). Some t) same) b.at)

-- ---- maps
no_entries : {K X : Type 0} (R : K → K → Ordering) → map.entries (map.empty {K = K} {X = X} {R = R}) ≡ []
no_entries {K} {X} R = nil_from_length (map.entries (map.empty {X = X} {R = R})) (sym (map.len-entries (map.empty {X = X} {R = R})) ∙ map.len-empty R X)

by_keys : (b c : Bool) (x y z : Option Written) → (b ≡ true → c ≡ true → ⊥) → cond c y (cond b x z) ≡ cond b x (cond c y z)
by_keys true true x y z f = absurd (f refl refl)
by_keys true false x y z f = refl
by_keys false c x y z f = refl

again : (b : Bool) (x y z : Option Written) → cond b x z ≡ cond b x (cond b y z)
again true x y z = refl
again false x y z = refl

tied : (q k : Written) → eq_by_cmp written_cmp q k ≡ true → q ≡ k
tied q k e = written_cmp_exact q k ((Equal-is (written_cmp q k)).0 e)

greater_equal : (r : Ordering) → r ≡ Greater → r ≡ Equal → ⊥
greater_equal r a b = cc

module _ (names : List (List ℕ)) (d : AreDistinct names) where
  abbrev put_by : Ordering → Value → Value → Pair → List Pair → List Pair
  put_by r k v e es = by_order r ((k, v) ∷ e ∷ es) ((e.0, v) ∷ es) (e ∷ put value_cmp k v es)

  find_by : (q : Written) (k v : Value) (e : Pair) (es : List Pair) (r : Ordering) → value_cmp k e.0 ≡ r → IsPrintable names k → IsPrintable names e.0
      → find written_cmp q (map_list (written_pair names) (put value_cmp k v es)) ≡ cond (eq_by_cmp written_cmp q (written names k)) (Some (written names v)) (find written_cmp q (map_list (written_pair names) es))
      → find written_cmp q (map_list (written_pair names) (put_by r k v e es)) ≡ cond (eq_by_cmp written_cmp q (written names k)) (Some (written names v)) (find written_cmp q (map_list (written_pair names) (e ∷ es)))
  find_by q k v e es Less o a b h = refl
  find_by q k v e es Equal o a b h =
      let same : k ≡ e.0 = value_cmp-IsAntisymmetric k e.0 o in
      again (eq_by_cmp written_cmp q (written names e.0)) (Some (written names v)) (Some (written names e.1)) (find written_cmp q (map_list (written_pair names) es))
      ∙ ap (λ (x : Value). cond (eq_by_cmp written_cmp q (written names x)) (Some (written names v)) (find written_cmp q (map_list (written_pair names) (e ∷ es)))) (sym same)
  find_by q k v e es Greater o a b h =
      ap (λ (z : Option Written). cond (eq_by_cmp written_cmp q (written names e.0)) (Some (written names e.1)) z) h
      ∙ by_keys (eq_by_cmp written_cmp q (written names k)) (eq_by_cmp written_cmp q (written names e.0)) (Some (written names v)) (Some (written names e.1)) (find written_cmp q (map_list (written_pair names) es))
      (λ x y. let same : k ≡ e.0 = one_value names k e.0 d a b (sym (tied q (written names k) x) ∙ tied q (written names e.0) y) in
      greater_equal (value_cmp k e.0) o (ap (λ (z : Value). value_cmp k z) (sym same) ∙ tied_itself value_cmp_total k))

  find_put : (q : Written) (k v : Value) (es : List Pair) → IsPrintable names k → HavePrintableKeys names es → find written_cmp q (map_list (written_pair names) (put value_cmp k v es)) ≡ cond (eq_by_cmp written_cmp q (written names k)) (Some (written names v)) (find written_cmp q (map_list (written_pair names) es))
  find_put q k v [] a h = refl
  find_put q k v (e ∷ es) a h = find_by q k v e es (value_cmp k e.0) refl a h.0 (find_put q k v es a h.1)

  kept_by : (r : Ordering) (k v : Value) (e : Pair) (es : List Pair) → IsPrintable names k → HavePrintableKeys names (e ∷ es) → HavePrintableKeys names (put value_cmp k v es) → HavePrintableKeys names (put_by r k v e es)
  kept_by Less k v e es a h f = (a, h)
  kept_by Equal k v e es a h f = h
  kept_by Greater k v e es a h f = (h.0, f)

  put_kept : (k v : Value) (es : List Pair) → IsPrintable names k → HavePrintableKeys names es → HavePrintableKeys names (put value_cmp k v es)
  put_kept k v [] a h = (a, tt)
  put_kept k v (e ∷ es) a h = kept_by (value_cmp k e.0) k v e es a h (put_kept k v es a h.1)

  keys_kept : (es : List Pair) → HavePrintableKeys names es → HavePrintableKeys names (map.entries (map.from_entries {R = value_cmp} es))
  keys_kept [] h = subst (HavePrintableKeys names) (sym (no_entries value_cmp)) tt
  keys_kept (e ∷ es) h = subst (HavePrintableKeys names) (sym (map.entries-insert value_cmp_total (map.from_entries es) e.0 e.1)) (put_kept e.0 e.1 (map.entries (map.from_entries es)) h.0 (keys_kept es h.1))

  found_same : (q : Written) (es : List Pair) → HavePrintableKeys names es → find written_cmp q (map_list (written_pair names) (map.entries (map.from_entries {R = value_cmp} es))) ≡ find written_cmp q (map_list (written_pair names) es)
  found_same q [] h = ap (λ (l : List Pair). find written_cmp q (map_list (written_pair names) l)) (no_entries value_cmp)
  found_same q (e ∷ es) h =
      ap (λ (l : List Pair). find written_cmp q (map_list (written_pair names) l)) (map.entries-insert value_cmp_total (map.from_entries es) e.0 e.1)
      ∙ find_put q e.0 e.1 (map.entries (map.from_entries es)) h.0 (keys_kept es h.1)
      ∙ ap (λ (o : Option Written). cond (eq_by_cmp written_cmp q (written names e.0)) (Some (written names e.1)) o) (found_same q es h.1)

  map_written : (es : List Pair) → HavePrintableKeys names es → map.from_entries {R = written_cmp} (map_list (written_pair names) (map.entries (map.from_entries {R = value_cmp} es))) ≡ map.from_entries (map_list (written_pair names) es)
  map_written es h = map.same_map written_cmp_total written_cmp_exact _ _ (λ q. map.get-from_entries written_cmp_total (map_list (written_pair names) (map.entries (map.from_entries {R = value_cmp} es))) q ∙ found_same q es h ∙ sym (map.get-from_entries written_cmp_total (map_list (written_pair names) es) q))

-- ---- sets
same_bool : (a b : Bool) → (a ≡ true → b ≡ true) → (b ≡ true → a ≡ true) → a ≡ b
same_bool true b f g = sym (f refl)
same_bool false true f g = g refl
same_bool false false f g = refl

found_one : (f : Value → Bool) (x y : Value) (ys : List Value) (b : Bool) → value_eq x y ≡ b → f x ≡ true → (list_any (value_eq x) ys ≡ true → list_any f ys ≡ true) → (b || list_any (value_eq x) ys) ≡ true → (f y || list_any f ys) ≡ true
found_one f x y ys true e fx g h = ap (λ (t : Bool). t || list_any f ys) (ap f (sym (same_value x y e)) ∙ fx)
found_one f x y ys false e fx g h = or_right (f y) (list_any f ys) (g h)

found_in : (f : Value → Bool) (x : Value) (ys : List Value) → f x ≡ true → list_any (value_eq x) ys ≡ true → list_any f ys ≡ true
found_in f x [] fx h = cc
found_in f x (y ∷ ys) fx h = found_one f x y ys (value_eq x y) refl fx (found_in f x ys fx) h

into : (f : Value → Bool) (xs ys : List Value) → ((y : Value) → list_any (value_eq y) xs ≡ true → list_any (value_eq y) ys ≡ true) → list_any f xs ≡ true → list_any f ys ≡ true
into f [] ys m h = cc
into f (x ∷ xs) ys m h = go (f x) refl h (into f xs ys (λ y e. m y (or_right (value_eq y x) (list_any (value_eq y) xs) e)))
  where
    go : (b : Bool) → f x ≡ b → (b || list_any f xs) ≡ true → (list_any f xs ≡ true → list_any f ys ≡ true) → list_any f ys ≡ true
    go true e h rest = found_in f x ys e (m x (ap (λ (t : Bool). t || list_any (value_eq x) xs) (value_eq-self x)))
    go false e h rest = rest h

any_same : (f : Value → Bool) (xs ys : List Value) → ((y : Value) → list_any (value_eq y) xs ≡ list_any (value_eq y) ys) → list_any f xs ≡ list_any f ys
any_same f xs ys m = same_bool (list_any f xs) (list_any f ys) (into f xs ys (λ y e. sym (m y) ∙ e)) (into f ys xs (λ y e. m y ∙ e))

abbrev marked : Bool → Option (Unit {0})
marked b = cond b (Some tt) None

find_unit : (names : List (List ℕ)) (q : Written) (ks : List Value) → find written_cmp q (map_list (λ (k : Value). member (written names k)) ks) ≡ marked (list_any (λ (k : Value). eq_by_cmp written_cmp q (written names k)) ks)
find_unit names q [] = refl
find_unit names q (k ∷ ks) = go (eq_by_cmp written_cmp q (written names k)) (find_unit names q ks)
  where
    go : (b : Bool) → find written_cmp q (map_list (λ (k : Value). member (written names k)) ks) ≡ marked (list_any (λ (k : Value). eq_by_cmp written_cmp q (written names k)) ks)
        → cond b (marked true) (find written_cmp q (map_list (λ (k : Value). member (written names k)) ks)) ≡ marked (b || list_any (λ (k : Value). eq_by_cmp written_cmp q (written names k)) ks)
    go true h = refl
    go false h = h

units_of : (names : List (List ℕ)) (es : List Pair) → map_list (λ (p : WrittenPair). member p.0) (map_list (written_pair names) es) ≡ map_list (λ (k : Value). member (written names k)) (map_list (λ (e : Pair). e.0) es)
units_of names [] = refl
units_of names (e ∷ es) = ap (λ (l : List (Written × Unit {0})). member (written names e.0) ∷ l) (units_of names es)

set_written : (names : List (List ℕ)) (ks : List Value) → map.from_entries {R = written_cmp} (map_list (λ (k : Value). member (written names k)) (set.items (set.from_list {R = value_cmp} ks))) ≡ map.from_entries (map_list (λ (k : Value). member (written names k)) ks)
set_written names ks =
    let items : List Value = set.items (set.from_list {R = value_cmp} ks) in
    map.same_map written_cmp_total written_cmp_exact _ _ (λ q.
    map.get-from_entries written_cmp_total (map_list (λ (k : Value). member (written names k)) items) q
    ∙ find_unit names q items
    ∙ ap marked (any_same (λ (k : Value). eq_by_cmp written_cmp q (written names k)) items ks (λ y. sym (set.contains-items (set.from_list ks) y) ∙ set.contains-from_list value_cmp_total ks y))
    ∙ sym (find_unit names q ks)
    ∙ sym (map.get-from_entries written_cmp_total (map_list (λ (k : Value). member (written names k)) ks) q))

pub written_is : (names : List (List ℕ)) (kind : TableKind) (es : List Pair) → AreDistinct names → HavePrintableKeys names es → written_table names (container_of kind es) ≡ written_of kind (map_list (written_pair names) es)
written_is names Map es d h = ap WrittenMap (map_written names d es h)
written_is names Set es d h = ap WrittenSet (set_written names (map_list (λ (e : Pair). e.0) es) ∙ ap (λ (l : List (Written × Unit {0})). map.from_entries l) (sym (units_of names es)))

-- ---- entries whose keys rise
put_least : {X : Type 0} (k : Written) (v : X) (es : List (Written × X)) → AllByRecursion (λ (l : Written). written_cmp k l ≡ Less) (keys_of es) → put written_cmp k v es ≡ (k, v) ∷ es
put_least k v [] h = refl
put_least k v (e ∷ es) h = ap (λ (r : Ordering). by_order r ((k, v) ∷ e ∷ es) ((e.0, v) ∷ es) (e ∷ put written_cmp k v es)) h.0

rising_entries : {X : Type 0} (es : List (Written × X)) → AreRising (keys_of es) → map.entries (map.from_entries {R = written_cmp} es) ≡ es
rising_entries [] h = no_entries written_cmp
rising_entries (e ∷ es) h =
    map.entries-insert written_cmp_total (map.from_entries es) e.0 e.1
    ∙ ap (λ l. put written_cmp e.0 e.1 l) (rising_entries es h.1)
    ∙ put_least e.0 e.1 es h.0

keys_units : (ps : List WrittenPair) → keys_of (map_list (λ (p : WrittenPair). member p.0) ps) ≡ keys_of ps
keys_units [] = refl
keys_units (p ∷ ps) = ap (λ (l : List Written). p.0 ∷ l) (keys_units ps)

members_told : (name : List ℕ) (ps : List WrittenPair) → map_list (λ (k : Written). entry_of name k None) (keys_of ps) ≡ entries_told name Set ps
members_told name [] = refl
members_told name (p ∷ ps) = ap (λ (l : List Entry). entry_of name p.0 None ∷ l) (members_told name ps)

pub entries_sorted : (name : List ℕ) (kind : TableKind) (ps : List WrittenPair) → AreRising (keys_of ps) → entries_in name (written_of kind ps) ≡ entries_told name kind ps
entries_sorted name Map ps h = ap (λ (l : List WrittenPair). map_list (λ (e : WrittenPair). entry_of name e.0 (Some e.1)) l) (rising_entries ps h)
entries_sorted name Set ps h =
    let units : List (Written × Unit {0}) = map_list (λ (p : WrittenPair). member p.0) ps in
    ap (λ (l : List (Written × Unit {0})). map_list (λ (k : Written). entry_of name k None) (keys_of l)) (rising_entries units (subst AreRising (sym (keys_units ps)) h))
    ∙ ap (λ (ks : List Written). map_list (λ (k : Written). entry_of name k None) ks) (keys_units ps)
    ∙ members_told name ps
