-- Rows, from the first to the last.
use Rattle.std.proofs.Common.{◌≡◌, ℕ, zero, suc, ◌+◌, ◌<◌, ◌==◌, Bool, true, false, not, cond, nat_le, List, [], ◌∷◌, ◌++◌, length, replicate, slice_get, Option, Some, None, refl, sym, ◌∙◌, ap, subst, arith, append_assoc, append-nil, length-append}
use Rattle.std.proofs.lemmas.Bool.{eqb-true}
use Rattle.std.proofs.lemmas.List.{length-replicate}
use Rattle.std.proofs.lemmas.Option.{slice_get_within}
use Rattle.std.specs.List.{list_all, list_any, AllByRecursion, flat_map}
use Rattle.std.specs.Option.{option_or, unwrap_or}
use Rattle.session_values.specs.Opening.{HaveNil, Pair, count_all, entries_of, has_key, with_entry}
use Rattle.session_values.proofs.KeptLemmas.{count_with, none_counted, length_with}
use Rattle.session_values.proofs.Filling.{none_there}
use Rattle.session_values.specs.Names.{Begins}
use Rattle.session_values.specs.Values.{value_eq}
use Rattle.session_values.specs.declared.kind.TableKind.{TableKind}
use Rattle.session_values.specs.declared.kind.TableKind.TheVariants.{Map, Set}
use Rattle.session_values.specs.declared.value.Value.{Value}
use Rattle.session_values.specs.declared.value.Value.TheVariants.{Nil}
use Rattle.session_values.proofs.Lists.{all_join}
use Rattle.session_values.proofs.Named.{begins_same, begins_then}
use Rattle.syntax_trees.specs.Mentions.{AreNamed, IsBelow, file_mentions, handler_mentions, table_mentions}
use Rattle.syntax_trees.specs.declared.file.File.{File}
use Rattle.syntax_trees.specs.declared.file.TableDecl.{TableDecl}
use Rattle.syntax_trees.proofs.Mentions.{all_first}
use Rattle.text_lines.specs.Rows.{Row, names_behind}
use Rattle.text_lines.specs.Text.{Text}
use Rattle.text_lines.specs.Values.{is_value, placed_all, value_of, values_of}
use Rattle.text_lines.proofs.RowLemmas.{behind_begins, behind_nil}
use Rattle.text_lines.proofs.ValueLemmas.{placed_all_begins}
use Rattle.table_lines.specs.Accepting.{Accepts, fault_at, row_fault}
use Rattle.table_lines.specs.TableRows.{AreKnown, ArePrintable, AreTables, arity, decl_fault, entries_for, first_table_fault, gives_key, key_word, pair_in, pair_of, says_same, table_fault, table_of, word_says}
use Rattle.table_lines.specs.declared.refusal.TableRefusal.{TableRefusal}
use Rattle.table_lines.specs.declared.refusal.TableRefusal.TheVariants.{Arity, BadWord, Twice, TooManyEntries}
use Rattle.table_lines.proofs.EntryLemmas.{HasKey, IsPrintablePair, behind_push, brought, each_list, entries_push, entries_same, entries_with, has_entries, has_key_word, key_is, kinds, nil_start, nil_with, none_for, printable_for, stand_all, stands_row}
use Rattle.table_lines.proofs.Finding.{table_kept}
use Rattle.table_lines.proofs.KeyLemmas.{Stands, keys_same}

-- some rows are read, and these are left
pub record Going (old : List Text) (tables : List TableDecl) (rs0 : List Row) (names : List Text) (rs : List Row) (found : List (List Pair)) : Type 0 where
  pub before : List Row
  pub split : before ++ rs ≡ rs0
  pub faults : first_table_fault old tables before rs ≡ first_table_fault old tables [] rs0
  pub behind : names ≡ names_behind old before
  pub many : length found ≡ length tables
  pub entries : (i : ℕ) → i < length tables → entries_of found i ≡ entries_for old names tables before i
  pub count : count_all found ≡ length before
  pub keys : AllByRecursion HasKey before
  pub nil : HaveNil (kinds tables) found

pub going_start : (old : List Text) (tables : List TableDecl) (rs0 : List Row) → Going old tables rs0 old rs0 (replicate (length tables) [])
going_start old tables rs0 = record {
  before = [];
  split = refl;
  faults = refl;
  behind = sym (behind_nil old);
  many = length-replicate (length tables) (the_empty);
  entries = λ i h. none_there (length tables) i ∙ sym (none_for old tables old i);
  count = none_counted (length tables);
  keys = tt;
  nil = nil_start (kinds tables) (length tables) (sym (kinds_length tables));
}
  where
    the_empty : List Pair
    the_empty = []

    kinds_length : (ts : List TableDecl) → length (kinds ts) ≡ length ts
    kinds_length [] = refl
    kinds_length (t ∷ ts) = ap suc (kinds_length ts)

pub names_kept : (old : List Text) (tables : List TableDecl) (rs0 : List Row) (names : List Text) (rs : List Row) (found : List (List Pair)) → Going old tables rs0 names rs found → Begins old names
names_kept old tables rs0 names rs found g = subst (Begins old) (sym g.behind) (behind_begins old g.before)

pub fault_step : (old : List Text) (tables : List TableDecl) (before : List Row) (r : Row) (rs : List Row) → first_table_fault old tables before (r ∷ rs) ≡ option_or (table_fault old tables before r) (first_table_fault old tables (before ++ r ∷ []) rs)
unfolding first_table_fault
fault_step old tables before r rs = refl

pub fault_end : (old : List Text) (tables : List TableDecl) (before : List Row) → first_table_fault old tables before [] ≡ None
unfolding first_table_fault
fault_end old tables before = refl

-- ---- the fault of a row, among the rows before it
-- words without a fault
record FineWords (o : Option TableDecl) (ws : List Text) : Type 0 where
  decl : TableDecl
  at : o ≡ Some decl
  some : 0 < length ws
  values : list_all is_value ws ≡ true

some_words : (kind : TableKind) (n : ℕ) → (arity kind == n) ≡ true → 0 < n
some_words Map n e = omega (arith, eqb-true 2 n e)
some_words Set n e = omega (arith, eqb-true 1 n e)

fine_by : (t : TableDecl) (line : ℕ) (ws : List Text) (a b : Bool) → (arity t.kind == length ws) ≡ a → list_all is_value ws ≡ b → cond (not a) (Some (Arity line)) (cond (not b) (Some (BadWord line)) None) ≡ None → FineWords (Some t) ws
fine_by t line ws true true ea eb h = record { decl = t; at = refl; some = some_words t.kind (length ws) ea; values = eb }
fine_by t line ws true false ea eb h = cc
fine_by t line ws false b ea eb h = cc

fine_words : (o : Option TableDecl) (line : ℕ) (ws : List Text) → decl_fault o line ws ≡ None → FineWords o ws
fine_words None line ws h = cc
fine_words (Some t) line ws h = fine_by t line ws (arity t.kind == length ws) (list_all is_value ws) refl refl h

-- the row's own key and that of each row before it
same_keys : (names : List Text) (r : Row) (before : List Row) → HasKey r → Stands names (key_word r) → AllByRecursion HasKey before → AllByRecursion (λ (b : Row). Stands names (key_word b)) before → AllByRecursion (λ (b : Row). value_eq (pair_in names r).0 (pair_in names b).0 ≡ says_same (word_says (key_word r)) (word_says (key_word b))) before
same_keys names r [] h s k t = tt
same_keys names r (b ∷ before) h s k t = (
  ap (λ (v : Value). value_eq v (pair_in names b).0) (key_is names r h)
      ∙ ap (λ (v : Value). value_eq (unwrap_or (value_of names (key_word r)) Nil) v) (key_is names b k.0)
      ∙ keys_same names (key_word r) (key_word b) s t.0 h.value k.0.value,
  same_keys names r before h s k.1 t.1,
)

option_same : (w : Option TableRefusal) (x y : Bool) (e : TableRefusal) → (w ≡ None → x ≡ y) → option_or w (cond x (Some e) None) ≡ option_or w (cond y (Some e) None)
option_same None x y e f = ap (λ (b : Bool). cond b (Some e) None) (f refl)
option_same (Some w) x y e f = refl

abbrev pub by_count : List Text → List TableDecl → List Row → Row → Bool → Option TableRefusal
by_count old tables before r a = cond a (Some (TooManyEntries r.line)) (option_or (decl_fault (slice_get tables (table_of old tables r.name)) r.line r.args) (cond (list_any (gives_key old tables r) before) (Some (Twice r.line)) None))

pub fault_is : (old : List Text) (tables : List TableDecl) (before : List Row) (r : Row) → table_fault old tables before r ≡ by_count old tables before r (nat_le 100000 (length before))
unfolding table_fault
fault_is old tables before r = refl

row_fault_is : (names : List Text) (tables : List TableDecl) (found : List (List Pair)) (r : Row) → row_fault names tables found r ≡ fault_at (table_of names tables r.name) (placed_all names r.args) tables found r
unfolding row_fault
row_fault_is names tables found r = refl

-- whether a row before gave the key is whether it is among the entries
seen_before : (old : List Text) (tables : List TableDecl) (before : List Row) (names : List Text) (r : Row) (found : List (List Pair))
    → names ≡ names_behind old before → ((i : ℕ) → i < length tables → entries_of found i ≡ entries_for old names tables before i) → AllByRecursion HasKey before
    → decl_fault (slice_get tables (table_of old tables r.name)) r.line r.args ≡ None
    → has_key (entries_of found (table_of old tables r.name)) (pair_in (placed_all names r.args) r).0 ≡ list_any (gives_key old tables r) before
seen_before old tables before names r found behind entries keys fine =
    let t : ℕ = table_of old tables r.name in
    let new : List Text = placed_all names r.args in
    let words = fine_words (slice_get tables t) r.line r.args fine in
    let here : t < length tables = slice_get_within tables t words.decl words.at in
    let own : HasKey r = has_key_word r words.some words.values in
    let front : Begins names new = placed_all_begins names r.args in
    let start : Begins (names_behind old before) names = subst (λ ns. Begins ns names) behind (begins_same names) in
    let far : Begins (names_behind old before) new = begins_then _ _ _ start front in
    let same = same_keys new r before own (stands_row names new r own (begins_same new)) keys (stand_all old new before keys far) in
    ap (λ (es : List Pair). has_key es (pair_in new r).0) (entries t here ∙ entries_same old tables old before names new t start far)
    ∙ has_entries old tables new before t (pair_in new r).0 (λ b. says_same (word_says (key_word r)) (word_says (key_word b))) same

fault_same : (old : List Text) (tables : List TableDecl) (rs0 : List Row) (names : List Text) (r : Row) (rs : List Row) (found : List (List Pair))
    → AreKnown old tables → (g : Going old tables rs0 names (r ∷ rs) found) → row_fault names tables found r ≡ table_fault old tables g.before r
fault_same old tables rs0 names r rs found k g =
    let new : List Text = placed_all names r.args in
    row_fault_is names tables found r
    ∙ ap (λ (i : ℕ). fault_at i new tables found r) (table_kept old names tables r.name (names_kept old tables rs0 names (r ∷ rs) found g) k)
    ∙ ap (λ (n : ℕ). cond (nat_le 100000 n) (Some (TooManyEntries r.line)) (option_or (decl_fault (slice_get tables (table_of old tables r.name)) r.line r.args) (cond (has_key (entries_of found (table_of old tables r.name)) (pair_in new r).0) (Some (Twice r.line)) None))) g.count
    ∙ ap (λ (o : Option TableRefusal). cond (nat_le 100000 (length g.before)) (Some (TooManyEntries r.line)) o)
    (option_same (decl_fault (slice_get tables (table_of old tables r.name)) r.line r.args) (has_key (entries_of found (table_of old tables r.name)) (pair_in new r).0) (list_any (gives_key old tables r) g.before) (Twice r.line) (seen_before old tables g.before names r found g.behind g.entries g.keys))
    ∙ sym (fault_is old tables g.before r)

pub going_fault : (old : List Text) (tables : List TableDecl) (rs0 : List Row) (names : List Text) (r : Row) (rs : List Row) (found : List (List Pair)) (e : TableRefusal)
    → AreKnown old tables → Going old tables rs0 names (r ∷ rs) found → row_fault names tables found r ≡ Some e → first_table_fault old tables [] rs0 ≡ Some e
going_fault old tables rs0 names r rs found e k g f =
    sym g.faults ∙ fault_step old tables g.before r rs
    ∙ ap (λ (w : Option TableRefusal). option_or w (first_table_fault old tables (g.before ++ r ∷ []) rs)) (sym (fault_same old tables rs0 names r rs found k g) ∙ f)

-- ---- one row more
kind_at : (tables : List TableDecl) (i : ℕ) (t : TableDecl) → slice_get tables i ≡ Some t → slice_get (kinds tables) i ≡ Some t.kind
kind_at [] i t h = cc
kind_at (x ∷ xs) zero t h = let same : x ≡ t = cc in ap (λ (d : TableDecl). Some d.kind) same
kind_at (x ∷ xs) (suc i) t h = kind_at xs i t h

nil_alone : (vs : List Value) → length vs ≡ 1 → (pair_of vs).1 ≡ Nil
nil_alone [] e = refl
nil_alone (k ∷ []) e = refl
nil_alone (k ∷ v ∷ vs) e = absurd (omega (arith, e))

values_long : (names ws : List Text) → length (values_of names ws) ≡ length ws
values_long names [] = refl
values_long names (w ∷ ws) = ap suc (values_long names ws)

member_nil : (kind : TableKind) (o : Option TableKind) (names ws : List Text) → o ≡ Some kind → arity kind ≡ length ws → o ≡ Some Set → (pair_of (values_of names ws)).1 ≡ Nil
member_nil Map o names ws e a s = absurd (map_set (sym e ∙ s))
  where
    map_set : ◌≡◌ {A = Option TableKind} (Some Map) (Some Set) → ⊥
    map_set q = cc
member_nil Set o names ws e a s = nil_alone (values_of names ws) (omega (arith, values_long names ws, a))

some_args : (kind : TableKind) (n : ℕ) → arity kind ≡ n → 0 < n
some_args Map n e = omega (arith, e)
some_args Set n e = omega (arith, e)

pub going_turn : (old : List Text) (tables : List TableDecl) (rs0 : List Row) (names : List Text) (r : Row) (rs : List Row) (found : List (List Pair)) (new : List Text) (next : List (List Pair))
    → AreKnown old tables → Going old tables rs0 names (r ∷ rs) found → Accepts names new tables found next r → Going old tables rs0 new rs next
going_turn old tables rs0 names r rs found new next k g a =
    let t : ℕ = table_of old tables r.name in
    let p : Pair = pair_in new r in
    let kept : table_of names tables r.name ≡ t = table_kept old names tables r.name (names_kept old tables rs0 names (r ∷ rs) found g) k in
    let P : ℕ → Type 0 = λ j. slice_get tables j ≡ Some a.decl in
    let at : slice_get tables t ≡ Some a.decl = subst P kept a.at in
    let here : t < length tables = slice_get_within tables t a.decl at in
    let there : t < length found = omega (arith, here, g.many) in
    let is : next ≡ with_entry found t p = a.is ∙ ap (λ (j : ℕ). with_entry found j p) kept in
    let fine : table_fault old tables g.before r ≡ None = sym (fault_same old tables rs0 names r rs found k g) ∙ a.fine in
    let names_are : new ≡ names_behind old (g.before ++ r ∷ []) = a.reads.names ∙ ap (λ (ns : List Text). placed_all ns r.args) g.behind ∙ sym (behind_push old g.before r) in
    let front : Begins names new = subst (Begins names) (sym a.reads.names) (placed_all_begins names r.args) in
    let start : Begins (names_behind old g.before) names = subst (λ ns. Begins ns names) g.behind (begins_same names) in
    record {
      before = g.before ++ r ∷ [];
      split = append_assoc g.before (r ∷ []) rs ∙ g.split;
      faults = ap (λ (w : Option TableRefusal). option_or w (first_table_fault old tables (g.before ++ r ∷ []) rs)) (sym fine) ∙ sym (fault_step old tables g.before r rs) ∙ g.faults;
      behind = names_are;
      many = ap length is ∙ length_with found t p ∙ g.many;
      entries = λ i h.
          ap (λ (lists : List (List Pair)). entries_of lists i) is ∙ entries_with found t i p there
          ∙ ap (λ (es : List Pair). es ++ brought old tables new r i) (g.entries i h ∙ entries_same old tables old g.before names new i start (begins_then _ _ _ start front))
          ∙ sym (entries_push old tables new g.before r i);
      count = ap count_all is ∙ count_with found t p there ∙ ap (λ (n : ℕ). n + 1) g.count ∙ sym (length-append g.before (r ∷ []));
      keys = all_join HasKey g.before (r ∷ []) g.keys (has_key_word r (some_args a.decl.kind (length r.args) a.reads.many) a.reads.values, tt);
      nil = subst (HaveNil (kinds tables)) (sym is) (nil_with (kinds tables) found t p g.nil (member_nil a.decl.kind (slice_get (kinds tables) t) new r.args (kind_at tables t a.decl at) a.reads.many));
    }

-- ---- behind the last
pub going_end : (old : List Text) (tables : List TableDecl) (rs0 : List Row) (names : List Text) (found : List (List Pair)) → Going old tables rs0 names [] found → AreTables old names tables rs0 found
going_end old tables rs0 names found g =
    let all : g.before ≡ rs0 = sym (append-nil g.before) ∙ g.split in
    record {
      fine = sym g.faults ∙ fault_end old tables g.before;
      count = g.many;
      entries = λ i h. g.entries i h ∙ ap (λ (rs : List Row). entries_for old names tables rs i) all;
      names = g.behind ∙ ap (names_behind old) all;
    }

pub tables_printable : (old new : List Text) (tables : List TableDecl) (rs : List Row) (found : List (List Pair)) → AreTables old new tables rs found → ArePrintable new found
tables_printable old new tables rs found a =
    let last : Begins (names_behind old rs) new = subst (λ ns. Begins ns new) a.names (begins_same new) in
    each_list (IsPrintablePair new) found (λ i h. subst (AllByRecursion (IsPrintablePair new)) (sym (a.entries i (omega (arith, h, a.count)))) (printable_for old tables old rs new i last))

-- ---- the file's tables
known_all : (names : List Text) (ts : List TableDecl) → AreNamed names (flat_map table_mentions ts) → AreKnown names ts
known_all names [] k = tt
known_all names (t ∷ ts) k =
    let parts = all_first (IsBelow (length names)) (table_mentions t) (flat_map table_mentions ts) k in
    (parts.0.0, known_all names ts parts.1)

pub named_known : (names : List Text) (f : File) → AreNamed names (file_mentions f) → AreKnown names f.tables
named_known names f k = known_all names f.tables (all_first (IsBelow (length names)) (flat_map table_mentions f.tables) (flat_map handler_mentions f.handlers) k).0
