-- The entries of each table, as rows come behind others.
use Rattle.std.proofs.Common.{◌≡◌, ℕ, zero, suc, ◌<◌, ◌==◌, Bool, true, false, cond, ◌||◌, ◌&&◌, List, [], ◌∷◌, ◌++◌, length, map, replicate, slice_get, slice_index_or, Some, refl, sym, ◌∙◌, ap, subst, arith, append-nil, append_assoc}
use Rattle.std.proofs.lemmas.Bool.{eq-eqb, eqb-false, eqb-true, ne_eqb}
use Rattle.std.specs.List.{list_all, list_any, AllByRecursion}
use Rattle.std.specs.Option.{unwrap_or}
use Rattle.session_values.specs.Opening.{HaveNil, Pair, entries_of, has_key, with_entry}
use Rattle.session_values.specs.Names.{Begins}
use Rattle.session_values.specs.ReplyText.{IsPrintable}
use Rattle.session_values.specs.Values.{value_eq}
use Rattle.session_values.specs.declared.kind.TableKind.{TableKind}
use Rattle.session_values.specs.declared.kind.TableKind.TheVariants.{Map, Set}
use Rattle.session_values.specs.declared.value.Value.{Value}
use Rattle.session_values.specs.declared.value.Value.TheVariants.{Nil}
use Rattle.session_values.proofs.Named.{begins_then}
use Rattle.syntax_trees.specs.declared.file.TableDecl.{TableDecl}
use Rattle.text_lines.specs.Rows.{Row, names_behind}
use Rattle.text_lines.specs.Text.{Text}
use Rattle.text_lines.specs.Values.{is_value, placed, placed_all, value_of, values_of}
use Rattle.text_lines.proofs.PrintableLemmas.{values_printable}
use Rattle.text_lines.proofs.RowLemmas.{behind_begins, behind_nil, behind_step}
use Rattle.text_lines.proofs.ValueLemmas.{placed_all_begins, placed_all_step, values_kept}
use Rattle.table_lines.specs.TableRows.{entries_for, key_word, pair_in, pair_of, table_of}
use Rattle.table_lines.proofs.KeyLemmas.{Stands, stands_placed}

-- ---- names behind rows
pub behind_push : (names : List Text) (before : List Row) (r : Row) → names_behind names (before ++ r ∷ []) ≡ placed_all (names_behind names before) r.args
behind_push names [] r = behind_step names r [] ∙ behind_nil (placed_all names r.args) ∙ ap (λ (ns : List Text). placed_all ns r.args) (sym (behind_nil names))
behind_push names (b ∷ before) r =
    behind_step names b (before ++ r ∷ []) ∙ behind_push (placed_all names b.args) before r ∙ ap (λ (ns : List Text). placed_all ns r.args) (sym (behind_step names b before))

-- ---- the entries of one table
module _ (old : List Text) (tables : List TableDecl) where
  pub none_for : (names : List Text) (i : ℕ) → entries_for old names tables [] i ≡ []
  unfolding entries_for
  none_for names i = refl

  pub entries_by : (names : List Text) (r : Row) (rs : List Row) (i : ℕ) (b : Bool) → (table_of old tables r.name == i) ≡ b → entries_for old names tables (r ∷ rs) i ≡ cond b (pair_in names r ∷ entries_for old names tables rs i) (entries_for old names tables rs i)
  unfolding entries_for
  entries_by names r rs i b e = ap (λ (x : Bool). cond x (pair_in names r ∷ entries_for old names tables rs i) (entries_for old names tables rs i)) e

  -- what one row brings to a table
  abbrev pub brought : List Text → Row → ℕ → List Pair
  brought names r i = cond (table_of old tables r.name == i) (pair_in names r ∷ []) []

  front_of : (names : List Text) (r : Row) (rs : List Row) (i : ℕ) → entries_for old names tables (r ∷ rs) i ≡ brought names r i ++ entries_for old names tables rs i
  front_of names r rs i = go (table_of old tables r.name == i) refl
    where
      go : (b : Bool) → (table_of old tables r.name == i) ≡ b → entries_for old names tables (r ∷ rs) i ≡ brought names r i ++ entries_for old names tables rs i
      go true e = entries_by names r rs i true e ∙ sym (ap (λ (x : Bool). cond x (pair_in names r ∷ []) [] ++ entries_for old names tables rs i) e)
      go false e = entries_by names r rs i false e ∙ sym (ap (λ (x : Bool). cond x (pair_in names r ∷ []) [] ++ entries_for old names tables rs i) e)

  pub entries_push : (names : List Text) (before : List Row) (r : Row) (i : ℕ) → entries_for old names tables (before ++ r ∷ []) i ≡ entries_for old names tables before i ++ brought names r i
  entries_push names [] r i =
      front_of names r [] i ∙ ap (λ (es : List Pair). brought names r i ++ es) (none_for names i) ∙ append-nil (brought names r i)
      ∙ sym (ap (λ (es : List Pair). es ++ brought names r i) (none_for names i))
  entries_push names (b ∷ before) r i =
      front_of names b (before ++ r ∷ []) i
      ∙ ap (λ (es : List Pair). brought names b i ++ es) (entries_push names before r i)
      ∙ sym (append_assoc (brought names b i) (entries_for old names tables before i) (brought names r i))
      ∙ sym (ap (λ (es : List Pair). es ++ brought names r i) (front_of names b before i))

  -- symbols that were placed keep their places
  pub entries_same : (start : List Text) (rs : List Row) (n m : List Text) (i : ℕ) → Begins (names_behind start rs) n → Begins (names_behind start rs) m → entries_for old n tables rs i ≡ entries_for old m tables rs i
  entries_same start [] n m i bn bm = none_for n i ∙ sym (none_for m i)
  entries_same start (r ∷ rs) n m i bn bm =
      let cn : Begins (names_behind (placed_all start r.args) rs) n = subst (λ ns. Begins ns n) (behind_step start r rs) bn in
      let cm : Begins (names_behind (placed_all start r.args) rs) m = subst (λ ns. Begins ns m) (behind_step start r rs) bm in
      let front = behind_begins (placed_all start r.args) rs in
      let same : values_of n r.args ≡ values_of m r.args = values_kept start r.args n (begins_then _ _ _ front cn) ∙ sym (values_kept start r.args m (begins_then _ _ _ front cm)) in
      front_of n r rs i
      ∙ ap (λ (vs : List Value). cond (table_of old tables r.name == i) (pair_of vs ∷ []) [] ++ entries_for old n tables rs i) same
      ∙ ap (λ (es : List Pair). brought m r i ++ es) (entries_same (placed_all start r.args) rs n m i cn cm)
      ∙ sym (front_of m r rs i)

  -- whether a table has a key, row by row
  pub has_entries : (names : List Text) (before : List Row) (i : ℕ) (k : Value) (f : Row → Bool) → AllByRecursion (λ (b : Row). value_eq k (pair_in names b).0 ≡ f b) before → has_key (entries_for old names tables before i) k ≡ list_any (λ (b : Row). table_of old tables b.name == i && f b) before
  has_entries names [] i k f h = ap (λ (es : List Pair). has_key es k) (none_for names i)
  has_entries names (b ∷ before) i k f h = go (table_of old tables b.name == i) refl (has_entries names before i k f h.1)
    where
      go : (t : Bool) → (table_of old tables b.name == i) ≡ t → has_key (entries_for old names tables before i) k ≡ list_any (λ (b : Row). table_of old tables b.name == i && f b) before → has_key (entries_for old names tables (b ∷ before) i) k ≡ list_any (λ (b : Row). table_of old tables b.name == i && f b) (b ∷ before)
      go true e ih =
          ap (λ (es : List Pair). has_key es k) (entries_by names b before i true e)
          ∙ ap (λ (x : Bool). x || has_key (entries_for old names tables before i) k) h.0
          ∙ ap (λ (x : Bool). f b || x) ih
          ∙ sym (ap (λ (x : Bool). (x && f b) || list_any (λ (b : Row). table_of old tables b.name == i && f b) before) e)
      go false e ih =
          ap (λ (es : List Pair). has_key es k) (entries_by names b before i false e) ∙ ih
          ∙ sym (ap (λ (x : Bool). (x && f b) || list_any (λ (b : Row). table_of old tables b.name == i && f b) before) e)

-- ---- keys of rows that were read
-- a row has words, of which the first is a value
pub record HasKey (r : Row) : Type 0 where
  pub some : 0 < length r.args
  pub value : is_value (key_word r) ≡ true

word_first : (ws : List Text) (P : Text → Type 0) → 0 < length ws → ((w : Text) (us : List Text) → ws ≡ w ∷ us → P w) → P (slice_index_or ws 0 [])
word_first [] P s f = absurd (omega arith)
word_first (w ∷ ws) P s f = f w ws refl

value_first : (w : Text) (us ws : List Text) → ws ≡ w ∷ us → list_all is_value ws ≡ true → is_value w ≡ true
value_first w us ws e h = go (is_value w) (sym (ap (list_all is_value) e) ∙ h)
  where
    go : (b : Bool) → (b && list_all is_value us) ≡ true → b ≡ true
    go true e = refl
    go false e = e

pub has_key_word : (r : Row) → 0 < length r.args → list_all is_value r.args ≡ true → HasKey r
has_key_word r s h = record { some = s; value = word_first r.args (λ w. is_value w ≡ true) s (λ w us e. value_first w us r.args e h) }

stands_in : (start all : List Text) (w : Text) (us ws : List Text) → ws ≡ w ∷ us → Begins (placed_all start ws) all → Stands all w
stands_in start all w us ws e b =
    let c : Begins (placed_all start (w ∷ us)) all = subst (λ (x : List Text). Begins (placed_all start x) all) e b in
    let d : Begins (placed_all (placed start w) us) all = subst (λ ns. Begins ns all) (placed_all_step start w us) c in
    stands_placed start all w (begins_then _ _ _ (placed_all_begins (placed start w) us) d)

pub stands_row : (start all : List Text) (r : Row) → HasKey r → Begins (placed_all start r.args) all → Stands all (key_word r)
stands_row start all r h b = word_first r.args (λ w. Stands all w) h.some (λ w us e. stands_in start all w us r.args e b)

pub stand_all : (start all : List Text) (rs : List Row) → AllByRecursion HasKey rs → Begins (names_behind start rs) all → AllByRecursion (λ (b : Row). Stands all (key_word b)) rs
stand_all start all [] h b = tt
stand_all start all (r ∷ rs) h b =
    let c : Begins (names_behind (placed_all start r.args) rs) all = subst (λ ns. Begins ns all) (behind_step start r rs) b in
    (stands_row start all r h.0 (begins_then _ _ _ (behind_begins (placed_all start r.args) rs) c), stand_all (placed_all start r.args) all rs h.1 c)

key_in : (names : List Text) (ws : List Text) → 0 < length ws → (pair_of (values_of names ws)).0 ≡ unwrap_or (value_of names (slice_index_or ws 0 [])) Nil
key_in names [] s = absurd (omega arith)
key_in names (w ∷ []) s = refl
key_in names (w ∷ v ∷ ws) s = refl

pub key_is : (names : List Text) (r : Row) → HasKey r → (pair_in names r).0 ≡ unwrap_or (value_of names (key_word r)) Nil
key_is names r h = key_in names r.args h.some

-- ---- all tables
pred_by : (t i : ℕ) (b : Bool) → (suc t == suc i) ≡ b → (t == i) ≡ b
pred_by t i true e = eq-eqb t i (omega (arith, eqb-true (suc t) (suc i) e))
pred_by t i false e = ne_eqb t i (λ q. eqb-false (suc t) (suc i) e (ap suc q))

zero_suc : (i : ℕ) → (0 == suc i) ≡ false
zero_suc i = ne_eqb 0 (suc i) (λ q. absurd (omega (arith, q)))

suc_zero : (t : ℕ) → (suc t == 0) ≡ false
suc_zero t = ne_eqb (suc t) 0 (λ q. absurd (omega (arith, q)))

with_by : (lists : List (List Pair)) (t i : ℕ) (p : Pair) (b : Bool) → (t == i) ≡ b → t < length lists → entries_of (with_entry lists t p) i ≡ entries_of lists i ++ cond b (p ∷ []) []
with_by [] t i p b e h = absurd (omega arith)
with_by (es ∷ lists) zero zero p b e h = ap (λ (x : Bool). es ++ cond x (p ∷ []) []) e
with_by (es ∷ lists) zero (suc i) p b e h = sym (append-nil (entries_of lists i)) ∙ ap (λ (x : Bool). entries_of lists i ++ cond x (p ∷ []) []) (sym (zero_suc i) ∙ e)
with_by (es ∷ lists) (suc t) zero p b e h = sym (append-nil es) ∙ ap (λ (x : Bool). es ++ cond x (p ∷ []) []) (sym (suc_zero t) ∙ e)
with_by (es ∷ lists) (suc t) (suc i) p b e h = with_by lists t i p b (pred_by t i b e) (omega arith)

pub entries_with : (lists : List (List Pair)) (t i : ℕ) (p : Pair) → t < length lists → entries_of (with_entry lists t p) i ≡ entries_of lists i ++ cond (t == i) (p ∷ []) []
entries_with lists t i p h = with_by lists t i p (t == i) refl h

abbrev pub kinds : List TableDecl → List TableKind
kinds tables = map (λ (t : TableDecl). t.kind) tables

nil_push : (es : List Pair) (p : Pair) → AllByRecursion (λ (e : Pair). e.1 ≡ Nil) es → p.1 ≡ Nil → AllByRecursion (λ (e : Pair). e.1 ≡ Nil) (es ++ p ∷ [])
nil_push [] p h e = (e, tt)
nil_push (x ∷ es) p h e = (h.0, nil_push es p h.1 e)

pub nil_with : (shape : List TableKind) (lists : List (List Pair)) (t : ℕ) (p : Pair) → HaveNil shape lists → (slice_get shape t ≡ Some Set → p.1 ≡ Nil) → HaveNil shape (with_entry lists t p)
nil_with [] [] t p h f = tt
nil_with [] (es ∷ lists) t p h f = absurd h
nil_with (kind ∷ shape) [] t p h f = absurd h
nil_with (Map ∷ shape) (es ∷ lists) zero p h f = h
nil_with (Set ∷ shape) (es ∷ lists) zero p h f = (nil_push es p h.0 (f refl), h.1)
nil_with (Map ∷ shape) (es ∷ lists) (suc t) p h f = nil_with shape lists t p h f
nil_with (Set ∷ shape) (es ∷ lists) (suc t) p h f = (h.0, nil_with shape lists t p h.1 f)

pub nil_start : (shape : List TableKind) (n : ℕ) → n ≡ length shape → HaveNil shape (replicate n [])
nil_start [] zero e = tt
nil_start [] (suc n) e = absurd (omega (arith, e))
nil_start (kind ∷ shape) zero e = absurd (omega (arith, e))
nil_start (Map ∷ shape) (suc n) e = nil_start shape n (omega (arith, e))
nil_start (Set ∷ shape) (suc n) e = (tt, nil_start shape n (omega (arith, e)))

-- ---- printable entries
abbrev pub IsPrintablePair : List Text → Pair → Type 0
IsPrintablePair names e = IsPrintable names e.0 × IsPrintable names e.1

pair_printable : (names : List Text) (vs : List Value) → AllByRecursion (IsPrintable names) vs → IsPrintablePair names (pair_of vs)
pair_printable names [] h = (tt, tt)
pair_printable names (k ∷ []) h = (h.0, tt)
pair_printable names (k ∷ v ∷ vs) h = (h.0, h.1.0)

cond_all : (names : List Text) (b : Bool) (p : Pair) (es : List Pair) → IsPrintablePair names p → AllByRecursion (IsPrintablePair names) es → AllByRecursion (IsPrintablePair names) (cond b (p ∷ es) es)
cond_all names true p es h k = (h, k)
cond_all names false p es h k = k

pub printable_for : (old : List Text) (tables : List TableDecl) (start : List Text) (rs : List Row) (all : List Text) (i : ℕ) → Begins (names_behind start rs) all → AllByRecursion (IsPrintablePair all) (entries_for old all tables rs i)
printable_for old tables start [] all i b = subst (AllByRecursion (IsPrintablePair all)) (sym (none_for old tables all i)) tt
printable_for old tables start (r ∷ rs) all i b =
    let c : Begins (names_behind (placed_all start r.args) rs) all = subst (λ ns. Begins ns all) (behind_step start r rs) b in
    let here = values_printable start r.args all (begins_then _ _ _ (behind_begins (placed_all start r.args) rs) c) in
    subst (AllByRecursion (IsPrintablePair all)) (sym (entries_by old tables all r rs i (table_of old tables r.name == i) refl))
    (cond_all all (table_of old tables r.name == i) (pair_in all r) (entries_for old all tables rs i) (pair_printable all (values_of all r.args) here) (printable_for old tables (placed_all start r.args) rs all i c))

pub each_list : (P : Pair → Type 0) (lists : List (List Pair)) → ((i : ℕ) → i < length lists → AllByRecursion P (entries_of lists i)) → AllByRecursion (AllByRecursion P) lists
each_list P [] f = tt
each_list P (es ∷ lists) f = (f zero (omega arith), each_list P lists (λ i h. f (suc i) (omega arith)))
