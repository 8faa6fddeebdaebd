-- The lines of tables are read as these tables.
use Rattle.std.proofs.Common.{◌≡◌, ℕ, zero, suc, ◌+◌, ◌<◌, ◌==◌, Bool, true, false, cond, List, [], ◌∷◌, ◌++◌, length, map, slice_get, Option, Some, None, refl, sym, ◌∙◌, ap, subst, arith, append-nil}
use Rattle.std.proofs.lemmas.Bool.{eq-eqb, ne_eqb}
use Rattle.std.proofs.lemmas.Option.{slice_get_within}
use Rattle.std.specs.FinMap as finite
use Rattle.std.specs.List.{AllByRecursion}
use Rattle.std.specs.Option.{option_map, unwrap_or}
use Rattle.session_values.specs.Opening.{Pair, container_of, entries_of}
use Rattle.session_values.specs.Names.{Begins}
use Rattle.session_values.specs.declared.value.Value.{Value}
use Rattle.session_values.specs.declared.value.Value.TheVariants.{Nil}
use Rattle.session_values.proofs.Named.{begins_same, begins_then}
use Rattle.session_values.proofs.Lists.{same_head, same_tail}
use Rattle.syntax_trees.specs.declared.file.TableDecl.{TableDecl}
use Rattle.syntax_trees.proofs.Mentions.{all_first}
use Rattle.table_lines.specs.Listed.{HavePrintableKeys, WrittenPair, written_of, written_pair}
use Rattle.table_lines.specs.Reading.{AreReadable, read_as, rows_from}
use Rattle.table_lines.specs.TableText.{Entry, WrittenTable, WrittenMap, WrittenSet, all_entries, entries_in, entry_of, entry_values, entry_words, member, written_table}
use Rattle.table_lines.specs.Written.{Written, word, written, written_cmp}
use Rattle.table_lines.proofs.Listing.{written_is}
use Rattle.table_lines.proofs.WrittenOrder.{written_cmp_exact, written_cmp_total}
use Rattle.table_lines.proofs.ValuesBack.{values_back}
use Rattle.text_lines.specs.Rows.{Row, names_behind}
use Rattle.text_lines.specs.Text.{Text}
use Rattle.text_lines.specs.Values.{placed_all, value_of, values_of}
use Rattle.text_lines.proofs.RowLemmas.{behind_begins, behind_step}
use Rattle.table_lines.specs.ReadBack.{AreReadBack, texts_of, written_kind, written_rows}
use Rattle.table_lines.specs.TableRows.{entries_for, pair_of, table_of}
use Rattle.table_lines.proofs.EntryLemmas.{IsPrintablePair, entries_by, none_for, printable_for}

-- ---- the entries of one table among those of all
-- the entry that a line of this entry is
abbrev pair_at : List Text → Entry → Pair
pair_at new e = pair_of (values_of new (entry_words e))

abbrev taken : List Text → List Text → List TableDecl → List Entry → ℕ → List Pair
taken old new decls [] i = []
taken old new decls (e ∷ es) i = cond (table_of old decls e.name == i) (pair_at new e ∷ taken old new decls es i) (taken old new decls es i)

module _ (old new : List Text) (decls : List TableDecl) where
  taken_is : (n : ℕ) (es : List Entry) (i : ℕ) → entries_for old new decls (rows_from n es) i ≡ taken old new decls es i
  taken_is n [] i = none_for old decls new i
  taken_is n (e ∷ es) i =
      entries_by old decls new _ (rows_from (n + 1) es) i (table_of old decls e.name == i) refl
      ∙ ap (λ (ps : List Pair). cond (table_of old decls e.name == i) (pair_at new e ∷ ps) ps) (taken_is (n + 1) es i)

  cond_join : (b : Bool) (p : Pair) (xs ys : List Pair) → cond b (p ∷ (xs ++ ys)) (xs ++ ys) ≡ cond b (p ∷ xs) xs ++ ys
  cond_join true p xs ys = refl
  cond_join false p xs ys = refl

  taken_join : (es fs : List Entry) (i : ℕ) → taken old new decls (es ++ fs) i ≡ taken old new decls es i ++ taken old new decls fs i
  taken_join [] fs i = refl
  taken_join (e ∷ es) fs i =
      ap (λ (ps : List Pair). cond (table_of old decls e.name == i) (pair_at new e ∷ ps) ps) (taken_join es fs i)
      ∙ cond_join (table_of old decls e.name == i) (pair_at new e) (taken old new decls es i) (taken old new decls fs i)

  abbrev pub AreOf : Text → List Entry → Type 0
  AreOf name es = AllByRecursion (λ (e : Entry). e.name ≡ name) es

  all_taken : (name : Text) (es : List Entry) (i : ℕ) → AreOf name es → table_of old decls name ≡ i → taken old new decls es i ≡ map (pair_at new) es
  all_taken name [] i h t = refl
  all_taken name (e ∷ es) i h t =
      ap (λ (b : Bool). cond b (pair_at new e ∷ taken old new decls es i) (taken old new decls es i)) (eq-eqb (table_of old decls e.name) i (ap (table_of old decls) h.0 ∙ t))
      ∙ ap (λ (ps : List Pair). pair_at new e ∷ ps) (all_taken name es i h.1 t)

  none_taken : (name : Text) (es : List Entry) (i : ℕ) → AreOf name es → (table_of old decls name ≡ i → ⊥) → taken old new decls es i ≡ []
  none_taken name [] i h t = refl
  none_taken name (e ∷ es) i h t =
      ap (λ (b : Bool). cond b (pair_at new e ∷ taken old new decls es i) (taken old new decls es i)) (ne_eqb (table_of old decls e.name) i (λ q. t (ap (table_of old decls) (sym h.0) ∙ q)))
      ∙ none_taken name es i h.1 t

  of_map : (name : Text) (ps : List WrittenPair) → AreOf name (map (λ (p : WrittenPair). entry_of name p.0 (Some p.1)) ps)
  of_map name [] = tt
  of_map name (p ∷ ps) = (refl, of_map name ps)

  of_set : (name : Text) (ks : List Written) → AreOf name (map (λ (k : Written). entry_of name k None) ks)
  of_set name [] = tt
  of_set name (k ∷ ks) = (refl, of_set name ks)

  pub of_table : (name : Text) (t : WrittenTable) → AreOf name (entries_in name t)
  of_table name (WrittenMap m) = of_map name (finite.entries m)
  of_table name (WrittenSet s) = of_set name (finite.keys s)

  -- tables whose names have numbers from o on
  abbrev pub AreFrom : ℕ → List Text → Type 0
  AreFrom o [] = Unit {0}
  AreFrom o (t ∷ ts) = (table_of old decls t ≡ o) × AreFrom (suc o) ts

  below_none : (o : ℕ) (texts : List Text) (tables : List WrittenTable) (i : ℕ) → AreFrom o texts → i < o → taken old new decls (all_entries texts tables) i ≡ []
  below_none o [] tables i f h = refl
  below_none o (t ∷ texts) [] i f h = refl
  below_none o (t ∷ texts) (w ∷ tables) i f h =
      taken_join (entries_in t w) (all_entries texts tables) i
      ∙ ap (λ (ps : List Pair). ps ++ taken old new decls (all_entries texts tables) i) (none_taken t (entries_in t w) i (of_table t w) (λ q. absurd (omega (arith, q, f.0, h))))
      ∙ below_none (suc o) texts tables i f.1 (omega (arith, h))

  -- the entries of one table, of which this holds as it does of all
  record One (P : Entry → Type 0) (all : List Entry) (i : ℕ) (w : WrittenTable) : Type 0 where
    name : Text
    is : taken old new decls all i ≡ map (pair_at new) (entries_in name w)
    each : AllByRecursion P (entries_in name w)

  one_taken : (P : Entry → Type 0) (o : ℕ) (texts : List Text) (tables : List WrittenTable) (k : ℕ) (w : WrittenTable) → length tables ≡ length texts → AreFrom o texts → AllByRecursion P (all_entries texts tables) → slice_get tables k ≡ Some w → One P (all_entries texts tables) (o + k) w
  one_taken P o [] [] k w l f a h = cc
  one_taken P o [] (x ∷ tables) k w l f a h = absurd (omega (arith, l))
  one_taken P o (t ∷ texts) [] k w l f a h = cc
  one_taken P o (t ∷ texts) (x ∷ tables) zero w l f a h =
      let same : x ≡ w = cc in
      record {
        name = t;
        each = subst (λ (y : WrittenTable). AllByRecursion P (entries_in t y)) same (all_first P (entries_in t x) (all_entries texts tables) a).0;
        is = taken_join (entries_in t x) (all_entries texts tables) (o + 0)
            ∙ ap (λ (ps : List Pair). ps ++ taken old new decls (all_entries texts tables) (o + 0)) (all_taken t (entries_in t x) (o + 0) (of_table t x) (omega (arith, f.0)))
            ∙ ap (λ (ps : List Pair). map (pair_at new) (entries_in t x) ++ ps) (below_none (suc o) texts tables (o + 0) f.1 (omega arith))
            ∙ append-nil (map (pair_at new) (entries_in t x))
            ∙ ap (λ (y : WrittenTable). map (pair_at new) (entries_in t y)) same;
      }
  one_taken P o (t ∷ texts) (x ∷ tables) (suc k) w l f a h =
      let rest = one_taken P (suc o) texts tables k w (omega (arith, l)) f.1 (all_first P (entries_in t x) (all_entries texts tables) a).1 h in
      let at : suc o + k ≡ o + suc k = omega arith in
      record {
        name = rest.name;
        each = rest.each;
        is = taken_join (entries_in t x) (all_entries texts tables) (o + suc k)
            ∙ ap (λ (ps : List Pair). ps ++ taken old new decls (all_entries texts tables) (o + suc k)) (none_taken t (entries_in t x) (o + suc k) (of_table t x) (λ q. absurd (omega (arith, q, f.0))))
            ∙ ap (λ (j : ℕ). taken old new decls (all_entries texts tables) j) (sym at)
            ∙ rest.is;
      }

pub from_differ : (old : List Text) (decls : List TableDecl) (o : ℕ) (texts : List Text) → ((i : ℕ) (t : Text) → slice_get texts i ≡ Some t → table_of old decls t ≡ o + i) → AreFrom old old decls o texts
from_differ old decls o [] f = tt
from_differ old decls o (t ∷ texts) f = (f zero t refl ∙ omega arith, from_differ old decls (suc o) texts (λ i u h. f (suc i) u h ∙ omega arith))

-- ---- what was written is found
abbrev IsBack : List Text → Entry → Type 0
IsBack new e = map (read_as new) (entry_words e) ≡ map Some (entry_values e)

all_back : (start new : List Text) (n : ℕ) (es : List Entry) → AreReadable es → Begins (names_behind start (rows_from n es)) new → AllByRecursion (IsBack new) es
all_back start new n [] h b = tt
all_back start new n (e ∷ es) h b =
    let args : List Text = entry_words e in
    let rest : List Row = rows_from (n + 1) es in
    let c : Begins (names_behind (placed_all start args) rest) new = subst (λ ns. Begins ns new) (behind_step start _ rest) b in
    (values_back start new (entry_values e) h.0.values (begins_then _ _ _ (behind_begins (placed_all start args) rest) c), all_back (placed_all start args) new (n + 1) es h.1 c)

written_at : (new : List Text) (o : Option Value) (x : Written) → option_map (written new) o ≡ Some x → written new (unwrap_or o Nil) ≡ x
written_at new None x e = cc
written_at new (Some v) x e = cc

pairs_map : (name : List ℕ) (names : List Text) (ps : List WrittenPair) → AllByRecursion (IsBack names) (map (λ (p : WrittenPair). entry_of name p.0 (Some p.1)) ps) → map (written_pair names) (map (pair_at names) (map (λ (p : WrittenPair). entry_of name p.0 (Some p.1)) ps)) ≡ ps
pairs_map name names [] h = refl
pairs_map name names (p ∷ ps) h =
    let key : written names (unwrap_or (value_of names (word p.0)) Nil) ≡ p.0 = written_at names (value_of names (word p.0)) p.0 (same_head _ _ _ _ h.0) in
    let value : written names (unwrap_or (value_of names (word p.1)) Nil) ≡ p.1 = written_at names (value_of names (word p.1)) p.1 (same_head _ _ _ _ (same_tail _ _ _ _ h.0)) in
    let make : Written → Written → List WrittenPair → List WrittenPair = λ k v l. (k, v) ∷ l in
    let rest : List WrittenPair = map (written_pair names) (map (pair_at names) (map (λ (q : WrittenPair). entry_of name q.0 (Some q.1)) ps)) in
    ap (λ (k : Written). make k (written names (unwrap_or (value_of names (word p.1)) Nil)) rest) key
    ∙ ap (λ (v : Written). make p.0 v rest) value
    ∙ ap (λ (l : List WrittenPair). p ∷ l) (pairs_map name names ps h.1)

keys_set : (name : List ℕ) (names : List Text) (ks : List Written) → AllByRecursion (IsBack names) (map (λ (k : Written). entry_of name k None) ks) → map (λ (p : WrittenPair). member p.0) (map (written_pair names) (map (pair_at names) (map (λ (k : Written). entry_of name k None) ks))) ≡ map member ks
keys_set name names [] h = refl
keys_set name names (k ∷ ks) h =
    let key : written names (unwrap_or (value_of names (word k)) Nil) ≡ k = written_at names (value_of names (word k)) k (same_head _ _ _ _ h.0) in
    let rest : List (Written × Unit {0}) = map (λ (p : WrittenPair). member p.0) (map (written_pair names) (map (pair_at names) (map (λ (k : Written). entry_of name k None) ks))) in
    ap (λ (x : Written). member x ∷ rest) key ∙ ap (λ (l : List (Written × Unit {0})). member k ∷ l) (keys_set name names ks h.1)

units_back : (us : List (Written × Unit {0})) → map member (map (λ (u : Written × Unit {0}). u.0) us) ≡ us
units_back [] = refl
units_back (u ∷ us) = ap (λ (l : List (Written × Unit {0})). member u.0 ∷ l) (units_back us)

same_again : {X : Type 0} (m : finite.FinMap written_cmp X) → finite.from_entries (finite.entries m) ≡ m
same_again m = finite.same_map written_cmp_total written_cmp_exact _ _ (λ q. finite.get-from_entries written_cmp_total (finite.entries m) q ∙ sym (finite.get-entries m q))

written_again : (name : List ℕ) (names : List Text) (w : WrittenTable) → AllByRecursion (IsBack names) (entries_in name w) → written_of (written_kind w) (map (written_pair names) (map (pair_at names) (entries_in name w))) ≡ w
written_again name names (WrittenMap m) h = ap (λ (ps : List WrittenPair). WrittenMap (finite.from_entries ps)) (pairs_map name names (finite.entries m) h) ∙ ap WrittenMap (same_again m)
written_again name names (WrittenSet s) h = ap (λ (us : List (Written × Unit {0})). WrittenSet (finite.from_entries us)) (keys_set name names (finite.keys s) h ∙ units_back (finite.entries s)) ∙ ap WrittenSet (same_again s)

keys_of_pairs : (names : List Text) (es : List Pair) → AllByRecursion (IsPrintablePair names) es → HavePrintableKeys names es
keys_of_pairs names [] h = tt
keys_of_pairs names (e ∷ es) h = (h.0.0, keys_of_pairs names es h.1)

pub texts_length : (old : List Text) (decls : List TableDecl) → length (texts_of old decls) ≡ length decls
texts_length old [] = refl
texts_length old (d ∷ decls) = ap suc (texts_length old decls)

pub tables_back : (old new : List Text) (decls : List TableDecl) (n : ℕ) (tables : List WrittenTable) (found : List (List Pair)) → AreReadBack old new decls n tables found → (i : ℕ) (t : WrittenTable) → slice_get tables i ≡ Some t → written_table new (container_of (written_kind t) (entries_of found i)) ≡ t
tables_back old new decls n tables found r i t at =
    let texts : List Text = texts_of old decls in
    let es : List Entry = all_entries texts tables in
    let rs : List Row = written_rows old decls n tables in
    let last : Begins (names_behind old rs) new = subst (λ ns. Begins ns new) r.read.names (begins_same new) in
    let back = all_back old new n es r.readable last in
    let one = one_taken old new decls (IsBack new) 0 texts tables i t (omega (arith, r.count, texts_length old decls)) (from_differ old decls 0 texts (λ k u h. let zero_more : k ≡ 0 + k = omega arith in r.differ k u h ∙ zero_more)) back at in
    let here : i < length decls = omega (arith, slice_get_within tables i t at, r.count) in
    let shift : i ≡ 0 + i = omega arith in
    let is : entries_of found i ≡ map (pair_at new) (entries_in one.name t) = r.read.entries i here ∙ taken_is old new decls n es i ∙ ap (taken old new decls es) shift ∙ one.is in
    let printable = keys_of_pairs new (entries_of found i) (subst (AllByRecursion (IsPrintablePair new)) (sym (r.read.entries i here)) (printable_for old decls old rs new i last)) in
    written_is new (written_kind t) (entries_of found i) r.distinct printable
    ∙ ap (λ (ps : List Pair). written_of (written_kind t) (map (written_pair new) ps)) is
    ∙ written_again one.name new t one.each
