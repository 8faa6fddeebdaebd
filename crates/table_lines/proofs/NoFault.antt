-- The lines of tables have no fault, where they are few enough.
use Rattle.std.proofs.Common.{◌≡◌, ℕ, ℤ, zero, suc, ◌+◌, ◌<◌, ◌≤◌, ◌==◌, Bool, true, false, cond, not, nat_le, ◌&&◌, ◌||◌, T, List, [], ◌∷◌, ◌++◌, length, map, slice_get, slice_index_or, codes, Option, Some, None, refl, sym, ◌∙◌, ap, subst, arith, length-append}
use Rattle.std.proofs.lemmas.Bool.{eqb-true, eq-eqb}
use Rattle.std.proofs.lemmas.Bool.Decides.{nat_tests}
use Rattle.std.specs.Cmp.{Equal-is, tied_itself}
use Rattle.std.specs.FinMap as finite
use Rattle.std.specs.FinMap.Entries.{below_all, is_sorted}
use Rattle.std.specs.List.{AllByRecursion, list_all, list_any}
use Rattle.std.specs.Option.{is_some, option_map, option_or}
use Rattle.std.specs.Ordering.{is_eq, is_lt}
use Rattle.std.specs.declared.cmp.Ordering.{Ordering}
use Rattle.session_values.specs.declared.value.Value.{Value}
use Rattle.session_values.proofs.Lists.{all_join}
use Rattle.session_values.proofs.Named.{begins_same}
use Rattle.syntax_trees.specs.declared.file.TableDecl.{TableDecl}
use Rattle.table_lines.specs.Listed.{WrittenPair}
use Rattle.table_lines.specs.Reading.{AreReadable, IsReadable, IsReadableEntry, read_as, rows_from}
use Rattle.table_lines.specs.TableText.{Entry, WrittenTable, WrittenMap, WrittenSet, all_entries, entries_in, entry_of, entry_values, entry_words, values_told}
use Rattle.table_lines.specs.Written.{Written, NilWord, NumberWord, SymbolWord, word, written, written_cmp}
use Rattle.table_lines.proofs.WrittenOrder.{written_cmp_exact, written_cmp_total}
use Rattle.table_lines.proofs.ValuesBack.{word_back}
use Rattle.text_lines.specs.Rows.{Row, row_of}
use Rattle.text_lines.specs.Text.{Text}
use Rattle.text_lines.specs.Values.{is_nil, is_symbol, is_value, placed, value_of}
use Rattle.text_lines.proofs.ValueLemmas.{is_value_is}
use Rattle.table_lines.specs.TableRows.{arity, decl_fault, first_table_fault, gives_key, key_word, says_same, table_fault, table_of, word_fault, word_says}
use Rattle.table_lines.specs.declared.refusal.TableRefusal.{TableRefusal}
use Rattle.table_lines.specs.declared.refusal.TableRefusal.TheVariants.{Arity, BadWord, Twice}
use Rattle.table_lines.specs.ReadBack.{AreWritable, texts_of, written_kind, written_rows}
use Rattle.table_lines.proofs.Going.{by_count, fault_end, fault_is, fault_step}
use Rattle.table_lines.proofs.KeyLemmas.{says_by, value_in, value_says}
use Rattle.table_lines.proofs.ReadBack.{AreFrom, AreOf, from_differ, of_table}

-- ---- what is written says itself
read_here : (w : Written) → IsReadable w → read_as (placed [] (word w)) (word w) ≡ Some w
read_here w h = word_back [] (placed [] (word w)) w h (begins_same (placed [] (word w)))

some_of : (o : Option Value) (names : List Text) (w : Written) → option_map (written names) o ≡ Some w → is_some o ≡ true
some_of None names w e = cc
some_of (Some v) names w e = refl

is_value_word : (w : Written) → IsReadable w → is_value (word w) ≡ true
is_value_word w h = is_value_is (placed [] (word w)) (word w) ∙ some_of (value_of (placed [] (word w)) (word w)) (placed [] (word w)) w (read_here w h)

are_values : (ws : List Written) → AllByRecursion IsReadable ws → list_all is_value (map word ws) ≡ true
are_values [] h = refl
are_values (w ∷ ws) h = ap (λ (b : Bool). b && list_all is_value (map word ws)) (is_value_word w h.0) ∙ are_values ws h.1

nil_no_symbol : is_symbol (codes "nil") ≡ false
unfolding is_symbol
nil_no_symbol = refl

number_said : (names : List Text) (o : Option Written) (z : ℤ) → option_map (written names) (option_map (value_in names) o) ≡ Some (NumberWord z) → o ≡ Some (NumberWord z)
number_said names None z e = cc
number_said names (Some NilWord) z e = cc
number_said names (Some (NumberWord y)) z e = e
number_said names (Some (SymbolWord t)) z e = cc

says_word : (w : Written) → IsReadable w → word_says (word w) ≡ Some w
says_word NilWord h = says_by (codes "nil") false true nil_no_symbol refl
says_word (SymbolWord t) h = says_by t true (is_nil t) h refl
says_word (NumberWord z) h =
    let names : List Text = placed [] (word (NumberWord z)) in
    number_said names (word_says (word (NumberWord z))) z (ap (option_map (written names)) (sym (value_says names (word (NumberWord z)))) ∙ read_here (NumberWord z) h)

first_word : (key : Written) (value : Option Written) → slice_index_or (map word (values_told key value)) 0 [] ≡ word key
first_word key None = refl
first_word key (Some v) = refl

readable_key : (key : Written) (value : Option Written) → AllByRecursion IsReadable (values_told key value) → IsReadable key
readable_key key None h = h.0
readable_key key (Some v) h = h.0

key_says : (b : Row) (e : Entry) → b.args ≡ entry_words e → IsReadableEntry e → word_says (key_word b) ≡ Some e.key
key_says b e is h =
    ap word_says (ap (λ (ws : List Text). slice_index_or ws 0 []) is ∙ first_word e.key e.value) ∙ says_word e.key (readable_key e.key e.value h.values)

-- ---- rows of entries, whatever their lines
record IsRow (b : Row) (e : Entry) : Type 0 where
  name : b.name ≡ e.name
  args : b.args ≡ entry_words e

abbrev AreRows : List Row → List Entry → Type 0
AreRows [] [] = Unit {0}
AreRows [] (e ∷ es) = ⊥
AreRows (b ∷ bs) [] = ⊥
AreRows (b ∷ bs) (e ∷ es) = IsRow b e × AreRows bs es

rows_push : (bs : List Row) (es : List Entry) (b : Row) (e : Entry) → AreRows bs es → IsRow b e → AreRows (bs ++ b ∷ []) (es ++ e ∷ [])
rows_push [] [] b e h r = (r, tt)
rows_push [] (x ∷ es) b e h r = absurd h
rows_push (y ∷ bs) [] b e h r = absurd h
rows_push (y ∷ bs) (x ∷ es) b e h r = (h.0, rows_push bs es b e h.1 r)

rows_long : (bs : List Row) (es : List Entry) → AreRows bs es → length bs ≡ length es
rows_long [] [] h = refl
rows_long [] (e ∷ es) h = absurd h
rows_long (b ∷ bs) [] h = absurd h
rows_long (b ∷ bs) (e ∷ es) h = ap suc (rows_long bs es h.1)

module _ (old : List Text) (decls : List TableDecl) where
  -- two entries of different tables or of different keys
  pub record Differs (f e : Entry) : Type 0 where
    pub apart : table_of old decls f.name ≡ table_of old decls e.name → f.key ≡ e.key → ⊥

  abbrev pub AreApart : List Entry → Type 0
  AreApart [] = Unit {0}
  AreApart (e ∷ es) = AllByRecursion (Differs e) es × AreApart es

  -- its table has as many words
  pub record IsSound (e : Entry) : Type 0 where
    pub decl : TableDecl
    pub at : slice_get decls (table_of old decls e.name) ≡ Some decl
    pub many : arity decl.kind ≡ length (entry_words e)

  gives_by : (t k : Bool) (P Q : Type 0) → (t ≡ true → P) → (k ≡ true → Q) → (P → Q → ⊥) → (t && k) ≡ false
  gives_by true true P Q f g h = absurd (h (f refl) (g refl))
  gives_by true false P Q f g h = refl
  gives_by false k P Q f g h = refl

  not_given : (r b : Row) (e f : Entry) → IsRow r e → IsRow b f → IsReadableEntry e → IsReadableEntry f → Differs f e → gives_key old decls r b ≡ false
  not_given r b e f re bf he hf d =
      let same : says_same (word_says (key_word r)) (word_says (key_word b)) ≡ is_eq (written_cmp e.key f.key) = ap (λ (o : Option Written). says_same o (word_says (key_word b))) (key_says r e re.args he) ∙ ap (says_same (Some e.key)) (key_says b f bf.args hf) in
      gives_by (table_of old decls b.name == table_of old decls r.name) (says_same (word_says (key_word r)) (word_says (key_word b)))
      (table_of old decls f.name ≡ table_of old decls e.name) (f.key ≡ e.key)
      (λ t. ap (table_of old decls) (sym bf.name) ∙ eqb-true (table_of old decls b.name) (table_of old decls r.name) t ∙ ap (table_of old decls) re.name)
      (λ k. sym (written_cmp_exact e.key f.key ((Equal-is (written_cmp e.key f.key)).0 (sym same ∙ k))))
      d.apart

  none_given : (r : Row) (e : Entry) (before : List Row) (front : List Entry) → IsRow r e → IsReadableEntry e → AreRows before front → AreReadable front → AllByRecursion (λ (f : Entry). Differs f e) front → list_any (gives_key old decls r) before ≡ false
  none_given r e [] [] re he bs hs ds = refl
  none_given r e [] (f ∷ front) re he bs hs ds = absurd bs
  none_given r e (b ∷ before) [] re he bs hs ds = absurd bs
  none_given r e (b ∷ before) (f ∷ front) re he bs hs ds =
      ap (λ (x : Bool). x || list_any (gives_key old decls r) before) (not_given r b e f re bs.0 he hs.0 ds.0) ∙ none_given r e before front re he bs.1 hs.1 ds.1

  fine_decl : (r : Row) (e : Entry) → IsRow r e → IsReadableEntry e → IsSound e → decl_fault (slice_get decls (table_of old decls r.name)) r.line r.args ≡ None
  fine_decl r e re he s =
      ap (λ (o : Option TableDecl). decl_fault o r.line r.args) (ap (λ (t : Text). slice_get decls (table_of old decls t)) re.name ∙ s.at)
      ∙ ap (word_fault s.decl.kind r.line) re.args
      ∙ ap (λ (b : Bool). cond (not b) (Some (Arity r.line)) (cond (not (list_all is_value (entry_words e))) (Some (BadWord r.line)) None)) (eq-eqb (arity s.decl.kind) (length (entry_words e)) s.many)
      ∙ ap (λ (b : Bool). cond (not b) (Some (BadWord r.line)) None) (are_values (entry_values e) he.values)

  few_rows : (n : ℕ) → n < 100000 → nat_le 100000 n ≡ false
  few_rows n h = grind (arith, nat_tests)

  fine_row : (r : Row) (e : Entry) (before : List Row) (front : List Entry) → IsRow r e → IsReadableEntry e → IsSound e → AreRows before front → AreReadable front → AllByRecursion (λ (f : Entry). Differs f e) front → length before < 100000 → table_fault old decls before r ≡ None
  fine_row r e before front re he s bs hs ds few =
      fault_is old decls before r
      ∙ ap (by_count old decls before r) (few_rows (length before) few)
      ∙ ap (λ (w : Option TableRefusal). option_or w (cond (list_any (gives_key old decls r) before) (Some (Twice r.line)) None)) (fine_decl r e re he s)
      ∙ ap (λ (b : Bool). cond b (Some (Twice r.line)) None) (none_given r e before front re he bs hs ds)

  -- each of the others differs from what stands before and from the next
  more_differ : (e : Entry) (front rest : List Entry) → AllByRecursion (λ (g : Entry). AllByRecursion (λ (f : Entry). Differs f g) front) rest → AllByRecursion (Differs e) rest → AllByRecursion (λ (g : Entry). AllByRecursion (λ (f : Entry). Differs f g) (front ++ e ∷ [])) rest
  more_differ e front [] a b = tt
  more_differ e front (g ∷ rest) a b = (all_join (λ (f : Entry). Differs f g) front (e ∷ []) a.0 (b.0, tt), more_differ e front rest a.1 b.1)

  no_fault : (before : List Row) (front rest : List Entry) (n : ℕ) → AreRows before front → AreReadable front → AreReadable rest → AllByRecursion IsSound rest → AreApart rest → AllByRecursion (λ (g : Entry). AllByRecursion (λ (f : Entry). Differs f g) front) rest → length front + length rest ≤ 100000 → first_table_fault old decls before (rows_from n rest) ≡ None
  no_fault before front [] n bs hf hr ss ap_ ds few = fault_end old decls before
  no_fault before front (e ∷ rest) n bs hf hr ss ap_ ds few =
      let r : Row = row_of n e.name (entry_words e) in
      let re : IsRow r e = record { name = refl; args = refl } in
      let short : length before < 100000 = omega (arith, rows_long before front bs, few) in
      fault_step old decls before r (rows_from (n + 1) rest)
      ∙ ap (λ (w : Option TableRefusal). option_or w (first_table_fault old decls (before ++ r ∷ []) (rows_from (n + 1) rest))) (fine_row r e before front re hr.0 ss.0 bs hf ds.0 short)
      ∙ no_fault (before ++ r ∷ []) (front ++ e ∷ []) rest (n + 1) (rows_push before front r e bs re) (all_join IsReadableEntry front (e ∷ []) hf (hr.0, tt)) hr.1 ss.1 ap_.1
      (more_differ e front rest ds.1 ap_.0) (omega (arith, few, length-append front (e ∷ [])))

  none_before : (rest : List Entry) → AllByRecursion (λ (g : Entry). AllByRecursion (λ (f : Entry). Differs f g) []) rest
  none_before [] = tt
  none_before (g ∷ rest) = (tt, none_before rest)

  pub entries_fine : (n : ℕ) (es : List Entry) → AreReadable es → AllByRecursion IsSound es → AreApart es → length es ≤ 100000 → first_table_fault old decls [] (rows_from n es) ≡ None
  entries_fine n es h s a few = no_fault [] [] es n tt tt h s a (none_before es) (omega (arith, few))

-- ---- the entries of tables
pub true_first : (a b : Bool) → T (a && b) → T a
true_first true b h = tt
true_first false b h = h

pub true_second : (a b : Bool) → T (a && b) → T b
true_second true b h = h
true_second false b h = absurd h

not_same : (k l : Written) → T (is_lt (written_cmp k l)) → k ≡ l → ⊥
not_same k l h e = let P : Written → Type 0 = λ x. T (is_lt (written_cmp k x)) in let Q : Ordering → Type 0 = λ r. T (is_lt r) in subst Q (tied_itself written_cmp_total k) (subst P (sym e) h)

-- what a table's declaration says
record Declared (decls : List TableDecl) (i : ℕ) (w : WrittenTable) : Type 0 where
  decl : TableDecl
  at : slice_get decls i ≡ Some decl
  kind : decl.kind ≡ written_kind w

declared : (ds : List TableDecl) (tables : List WrittenTable) (k : ℕ) (w : WrittenTable) → map written_kind tables ≡ map (λ (d : TableDecl). d.kind) ds → slice_get tables k ≡ Some w → Declared ds k w
declared ds [] k w e h = cc
declared [] (x ∷ tables) k w e h = cc
declared (d ∷ ds) (x ∷ tables) zero w e h = let same : x ≡ w = cc in let kinds : written_kind x ≡ d.kind = cc in record { decl = d; at = refl; kind = sym kinds ∙ ap written_kind same }
declared (d ∷ ds) (x ∷ tables) (suc k) w e h =
    let rest : map written_kind tables ≡ map (λ (d : TableDecl). d.kind) ds = cc in
    let on = declared ds tables k w rest h in record { decl = on.decl; at = on.at; kind = on.kind }

module _ (old : List Text) (decls : List TableDecl) where
  sound_map : (name : Text) (d : TableDecl) (ps : List WrittenPair) → slice_get decls (table_of old decls name) ≡ Some d → arity d.kind ≡ 2 → AllByRecursion (IsSound old decls) (map (λ (p : WrittenPair). entry_of name p.0 (Some p.1)) ps)
  sound_map name d [] h k = tt
  sound_map name d (p ∷ ps) h k = (record { decl = d; at = h; many = k }, sound_map name d ps h k)

  sound_set : (name : Text) (d : TableDecl) (ks : List Written) → slice_get decls (table_of old decls name) ≡ Some d → arity d.kind ≡ 1 → AllByRecursion (IsSound old decls) (map (λ (k : Written). entry_of name k None) ks)
  sound_set name d [] h k = tt
  sound_set name d (x ∷ ks) h k = (record { decl = d; at = h; many = k }, sound_set name d ks h k)

  sound_table : (name : Text) (i : ℕ) (w : WrittenTable) → table_of old decls name ≡ i → Declared decls i w → AllByRecursion (IsSound old decls) (entries_in name w)
  sound_table name i (WrittenMap m) t d = sound_map name d.decl (finite.entries m) (ap (λ (j : ℕ). slice_get decls j) t ∙ d.at) (ap arity d.kind)
  sound_table name i (WrittenSet s) t d = sound_set name d.decl (finite.keys s) (ap (λ (j : ℕ). slice_get decls j) t ∙ d.at) (ap arity d.kind)

  sound_all : (o : ℕ) (texts : List Text) (tables : List WrittenTable) → AreFrom old old decls o texts → ((k : ℕ) (w : WrittenTable) → slice_get tables k ≡ Some w → Declared decls (o + k) w) → AllByRecursion (IsSound old decls) (all_entries texts tables)
  sound_all o [] tables f d = tt
  sound_all o (t ∷ texts) [] f d = tt
  sound_all o (t ∷ texts) (w ∷ tables) f d =
      let from : table_of old decls t ≡ o + 0 = omega (arith, f.0) in
      all_join (IsSound old decls) (entries_in t w) (all_entries texts tables) (sound_table t (o + 0) w from (d zero w refl))
      (sound_all (suc o) texts tables f.1 (λ k x h. let at : o + suc k ≡ suc o + k = omega arith in subst (λ (j : ℕ). Declared decls j x) at (d (suc k) x h)))

  -- ---- keys differ
  map_below : (name : Text) (k : Written) (v : Option Written) (ps : List WrittenPair) → T (below_all written_cmp k ps) → AllByRecursion (Differs old decls (entry_of name k v)) (map (λ (p : WrittenPair). entry_of name p.0 (Some p.1)) ps)
  map_below name k v [] h = tt
  map_below name k v (p ∷ ps) h = (record { apart = λ _ e. not_same k p.0 (true_first (is_lt (written_cmp k p.0)) (below_all written_cmp k ps) h) e }, map_below name k v ps (true_second (is_lt (written_cmp k p.0)) (below_all written_cmp k ps) h))

  map_apart : (name : Text) (ps : List WrittenPair) → T (is_sorted written_cmp ps) → AreApart old decls (map (λ (p : WrittenPair). entry_of name p.0 (Some p.1)) ps)
  map_apart name [] h = tt
  map_apart name (p ∷ ps) h = (map_below name p.0 (Some p.1) ps (true_first (below_all written_cmp p.0 ps) (is_sorted written_cmp ps) h), map_apart name ps (true_second (below_all written_cmp p.0 ps) (is_sorted written_cmp ps) h))

  set_below : (name : Text) (k : Written) (us : List (Written × Unit {0})) → T (below_all written_cmp k us) → AllByRecursion (Differs old decls (entry_of name k None)) (map (λ (l : Written). entry_of name l None) (map (λ (u : Written × Unit {0}). u.0) us))
  set_below name k [] h = tt
  set_below name k (u ∷ us) h = (record { apart = λ _ e. not_same k u.0 (true_first (is_lt (written_cmp k u.0)) (below_all written_cmp k us) h) e }, set_below name k us (true_second (is_lt (written_cmp k u.0)) (below_all written_cmp k us) h))

  set_apart : (name : Text) (us : List (Written × Unit {0})) → T (is_sorted written_cmp us) → AreApart old decls (map (λ (l : Written). entry_of name l None) (map (λ (u : Written × Unit {0}). u.0) us))
  set_apart name [] h = tt
  set_apart name (u ∷ us) h = (set_below name u.0 us (true_first (below_all written_cmp u.0 us) (is_sorted written_cmp us) h), set_apart name us (true_second (below_all written_cmp u.0 us) (is_sorted written_cmp us) h))

  table_apart : (name : Text) (w : WrittenTable) → AreApart old decls (entries_in name w)
  table_apart name (WrittenMap m) = map_apart name (finite.entries m) (finite.entries_sorted m)
  table_apart name (WrittenSet s) = set_apart name (finite.entries s) (finite.entries_sorted s)

  -- ---- and so do tables
  other_table : (e : Entry) (o n : ℕ) (name : Text) (es : List Entry) → table_of old decls e.name ≡ o → o < n → table_of old decls name ≡ n → AreOf old old decls name es → AllByRecursion (Differs old decls e) es
  other_table e o n name [] a l b h = tt
  other_table e o n name (f ∷ es) a l b h = (record { apart = λ q _. absurd (omega (arith, a, l, b, q, ap (table_of old decls) h.0)) }, other_table e o n name es a l b h.1)

  later_tables : (e : Entry) (o n : ℕ) (texts : List Text) (tables : List WrittenTable) → table_of old decls e.name ≡ o → o < n → AreFrom old old decls n texts → AllByRecursion (Differs old decls e) (all_entries texts tables)
  later_tables e o n [] tables a l f = tt
  later_tables e o n (t ∷ texts) [] a l f = tt
  later_tables e o n (t ∷ texts) (w ∷ tables) a l f =
      all_join (Differs old decls e) (entries_in t w) (all_entries texts tables) (other_table e o n t (entries_in t w) a l f.0 (of_table old old decls t w)) (later_tables e o (suc n) texts tables a (omega (arith, l)) f.1)

  each_later : (name : Text) (o : ℕ) (es : List Entry) (texts : List Text) (tables : List WrittenTable) → table_of old decls name ≡ o → AreOf old old decls name es → AreFrom old old decls (suc o) texts → AllByRecursion (λ (e : Entry). AllByRecursion (Differs old decls e) (all_entries texts tables)) es
  each_later name o [] texts tables a h f = tt
  each_later name o (e ∷ es) texts tables a h f = (later_tables e o (suc o) texts tables (ap (table_of old decls) h.0 ∙ a) (omega arith) f, each_later name o es texts tables a h.1 f)

  join_apart : (xs ys : List Entry) → AreApart old decls xs → AreApart old decls ys → AllByRecursion (λ (e : Entry). AllByRecursion (Differs old decls e) ys) xs → AreApart old decls (xs ++ ys)
  join_apart [] ys a b c = b
  join_apart (x ∷ xs) ys a b c = (all_join (Differs old decls x) xs ys a.0 c.0, join_apart xs ys a.1 b c.1)

  apart_all : (o : ℕ) (texts : List Text) (tables : List WrittenTable) → AreFrom old old decls o texts → AreApart old decls (all_entries texts tables)
  apart_all o [] tables f = tt
  apart_all o (t ∷ texts) [] f = tt
  apart_all o (t ∷ texts) (w ∷ tables) f =
      join_apart (entries_in t w) (all_entries texts tables) (table_apart t w) (apart_all (suc o) texts tables f.1) (each_later t o (entries_in t w) texts tables f.0 (of_table old old decls t w) f.1)

pub tables_fine : (old : List Text) (decls : List TableDecl) (n : ℕ) (tables : List WrittenTable) → AreWritable old decls tables → first_table_fault old decls [] (written_rows old decls n tables) ≡ None
tables_fine old decls n tables w =
    let texts : List Text = texts_of old decls in
    let from = from_differ old decls 0 texts (λ k u h. let zero_more : k ≡ 0 + k = omega arith in w.differ k u h ∙ zero_more) in
    entries_fine old decls n (all_entries texts tables) w.readable
    (sound_all old decls 0 texts tables from (λ k x h. let shift : k ≡ 0 + k = omega arith in subst (λ (j : ℕ). Declared decls j x) shift (declared decls tables k x w.kinds h)))
    (apart_all old decls 0 texts tables from)
    w.few
