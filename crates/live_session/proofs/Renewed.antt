-- A session whose names were renewed.
use Rattle.std.proofs.Common.{◌≡◌, ℕ, zero, suc, ◌<◌, ◌≤◌, ◌⊎◌, inl, inr, Bool, true, false, List, [], ◌∷◌, ◌++◌, length, length-append, map, Option, Some, None, slice_get, unwrap_or, refl, sym, ◌∙◌, ap, subst, arith}
use Rattle.std.proofs.lemmas.List.{length-map}
use Rattle.std.proofs.lemmas.Option.{same_Some, slice_get_within}
use Rattle.std.specs.List.{AllByRecursion, flat_map}
use Rattle.session_values.specs.Names.{AreDistinct, IsNamed}
use Rattle.session_values.specs.ReplyText.{IsPrintable}
use Rattle.session_values.specs.Opening.{AreApart, AreEntries, HaveNil, Pair, container_of, tables_of}
use Rattle.session_values.specs.Tables.{Container, Tables, kind_of, table}
use Rattle.session_values.specs.declared.kind.TableKind.{TableKind}
use Rattle.session_values.specs.declared.kind.TableKind.TheVariants.{Map, Set}
use Rattle.session_values.specs.declared.value.Value.{Value}
use Rattle.session_values.specs.declared.value.Value.TheVariants.{Nil, Sym}
use Rattle.session_values.proofs.Lists.{same_head, same_tail}
use Rattle.session_values.proofs.Named.{begins_same}
use Rattle.session_values.proofs.Openings.{opening_kinds}
use Rattle.syntax_trees.specs.Mentions.{AreBelow, IsBelow, Mention, a_name, a_number, a_symbol, file_mentions}
use Rattle.handler_check.specs.File.{File}
use Rattle.handler_check.specs.TableDecl.{TableDecl}
use Rattle.handler_check.specs.Resolved.{shape_of}
use Rattle.handler_check.specs.Mentions.{handler_mentions, table_mentions}
use Rattle.serve_faults.specs.Language.{HasText, HaveTexts, IsNamedFile}
use Rattle.serve_faults.specs.Printable.{IsPrintableTable}
use Rattle.serve_faults.specs.ReadBack.{texts_of}
use Rattle.serve_faults.specs.TableRows.{ArePrintable}
use Rattle.serve_faults.proofs.Facts.{all_first}
use Rattle.serve_faults.proofs.PrintableTables.{opening_holds}
use Rattle.serve_reading.proofs.TextsKept.{texts_kept}
use Rattle.shard_tables.specs.declared.part.Part.{Part}
use Rattle.shard_tables.specs.declared.part.Part.TheVariants as shard
use Rattle.shard_tables.specs.Either.{as_entries, entries_in, index_in}
use Rattle.shard_tables.specs.Slots.{factor_of}
use Rattle.shard_tables.proofs.Either.{held_is}
use Rattle.table_lines.specs.Dumped.{IsPrintableEntry}
use Rattle.table_lines.specs.TableText.{WrittenTable, table_text, written_table}
use Rattle.table_lines.specs.Written.{text_at}
use Rattle.text_lines.specs.Rows.{Row, names_behind, rows}
use Rattle.text_lines.specs.Text.{Text}
use Rattle.text_lines.proofs.RowLemmas.{behind_nil, rows_nil}
use Rattle.request_files.specs.Requests.{AreKnown, request_of}
use Rattle.driven_tickets.specs.Acts.{idle_tickets}
use Rattle.driven_tickets.specs.Desk.{TicketsView}
use Rattle.driven_tickets.proofs.Idle.{idle_desk}
use Rattle.live_session.specs.declared.history.History.{History}
use Rattle.live_session.specs.declared.renewing.Replacement.{Replacement}
use Rattle.live_session.specs.Held.{container_in, factors_in, held, lists_in}
use Rattle.live_session.specs.Live.{IsLive, LiveView, dump_of}
use Rattle.live_session.specs.Moving.{HasName, flag, kept, moved_entries, place_in, set_before}
use Rattle.live_session.specs.Renewal.{IsRenewal, held_flags}
use Rattle.live_session.specs.Renewing.{AreMoved, HoldsName, IsHeld, IsRenewed}
use Rattle.live_session.specs.Served.{AreServed, line_fault}
use Rattle.live_session.proofs.DumpLemmas.{tables_whole}
use Rattle.live_session.proofs.EntriesPrinted.{entries_printed}
use Rattle.live_session.proofs.Kept.{Comes, HasNameIn, comes, first_few, first_same, flag_first, flag_from, flag_held, kept_at, kept_few}
use Rattle.live_session.proofs.Lines.{handlers_known}
use Rattle.live_session.proofs.Moved.{InTable, NamesOf, entries_moved, has_in, in_table, list_printable, names_of_entries, table_written, tables_moved}

-- ---- members have nil
members_nil : (ks : List Value) → AllByRecursion (λ (e : Pair). e.1 ≡ Nil) (as_entries ks)
members_nil [] = tt
members_nil (k ∷ ks) = (refl, members_nil ks)

map_set : ◌≡◌ {A = TableKind} Map Set → ⊥
map_set e = cc

part_nil : (p : Part) → kind_of (container_in p) ≡ Set → AllByRecursion (λ (e : Pair). e.1 ≡ Nil) (entries_in p)
part_nil (shard.Bindings s) e = absurd (map_set e)
part_nil (shard.Members s) e = members_nil s.value.entries

parts_nil : (shape : List TableKind) (ps : List Part) → map kind_of (held ps) ≡ shape → HaveNil shape (lists_in ps)
parts_nil [] [] e = tt
parts_nil [] (p ∷ ps) e = cc
parts_nil (k ∷ shape) [] e = cc
parts_nil (Map ∷ shape) (p ∷ ps) e = parts_nil shape ps (same_tail (kind_of (container_in p)) Map (map kind_of (held ps)) shape e)
parts_nil (Set ∷ shape) (p ∷ ps) e = (
  part_nil p (same_head (kind_of (container_in p)) Set (map kind_of (held ps)) shape e),
  parts_nil shape ps (same_tail (kind_of (container_in p)) Set (map kind_of (held ps)) shape e),
)

-- ---- entries that can be printed
abbrev PrintEach : List Text → List TableKind → List (List Pair) → Type 0
PrintEach names [] lists = Unit {0}
PrintEach names (k ∷ shape) [] = Unit {0}
PrintEach names (k ∷ shape) (es ∷ lists) = AllByRecursion (IsPrintableEntry names k) es × PrintEach names shape lists

print_each : (names : List Text) (shape : List TableKind) (ps : List Part) → map kind_of (held ps) ≡ shape → AllByRecursion AreApart (lists_in ps) → AllByRecursion (IsPrintableTable names) (held ps) → PrintEach names shape (lists_in ps)
print_each names [] ps e a h = tt
print_each names (k ∷ shape) [] e a h = tt
print_each names (k ∷ shape) (p ∷ ps) e a h = (
  entries_printed names k (container_in p) (entries_in p) a.0 (held_is p k (same_head (kind_of (container_in p)) k (map kind_of (held ps)) shape e)) h.0,
  print_each names shape ps (same_tail (kind_of (container_in p)) k (map kind_of (held ps)) shape e) a.1 h.1,
)

-- a name of entries that can be printed is one of the names
entry_named : (names : List Text) (k : TableKind) (e : Pair) (i : ℕ) → (k ≡ Set → e.1 ≡ Nil) → IsPrintableEntry names k e → (e.0 ≡ Sym i) ⊎ (e.1 ≡ Sym i) → IsNamed names i
entry_named names Map e i n h (inl x) = subst (IsPrintable names) x h.0
entry_named names Map e i n h (inr x) = subst (IsPrintable names) x h.1
entry_named names Set e i n h (inl x) = subst (IsPrintable names) x h
entry_named names Set e i n h (inr x) = absurd (no_name e.1 (n refl) x)
  where
    no_name : (v : Value) → v ≡ Nil → v ≡ Sym i → ⊥
    no_name v a b = cc

list_named : (names : List Text) (k : TableKind) (es : List Pair) (i : ℕ) → (k ≡ Set → AllByRecursion (λ (e : Pair). e.1 ≡ Nil) es) → AllByRecursion (IsPrintableEntry names k) es → HasName es i → IsNamed names i
list_named names k [] i n h x = absurd x
list_named names k (e ∷ es) i n h (inl x) = entry_named names k e i (λ s. (n s).0) h.0 x
list_named names k (e ∷ es) i n h (inr x) = list_named names k es i (λ s. (n s).1) h.1 x

lists_named : (names : List Text) (shape : List TableKind) (lists : List (List Pair)) (i : ℕ) → HaveNil shape lists → PrintEach names shape lists → HasNameIn lists i → IsNamed names i
lists_named names [] [] i n h x = absurd x
lists_named names [] (es ∷ lists) i n h x = absurd n
lists_named names (k ∷ shape) [] i n h x = absurd x
lists_named names (Map ∷ shape) (es ∷ lists) i n h (inl x) = list_named names Map es i (λ s. absurd (map_set s)) h.0 x
lists_named names (Set ∷ shape) (es ∷ lists) i n h (inl x) = list_named names Set es i (λ s. n.0) h.0 x
lists_named names (Map ∷ shape) (es ∷ lists) i n h (inr x) = lists_named names shape lists i n h.1 x
lists_named names (Set ∷ shape) (es ∷ lists) i n h (inr x) = lists_named names shape lists i n.1 h.1 x

all_names : (lists : List (List Pair)) (P : ℕ → Type 0) → ((i : ℕ) → HasNameIn lists i → P i) → AllByRecursion (NamesOf P) lists
all_names [] P h = tt
all_names (es ∷ lists) P h = (names_of_entries P es (λ i x. h i (inl x)), all_names lists P (λ i x. h i (inr x)))

-- ---- lists of one number
pub same_numbers : (c : ℕ) (xs ys : List ℕ) → length xs ≡ length ys → AllByRecursion (λ (n : ℕ). n ≡ c) xs → AllByRecursion (λ (n : ℕ). n ≡ c) ys → xs ≡ ys
same_numbers c [] [] l a b = refl
same_numbers c [] (y ∷ ys) l a b = absurd (omega (arith, l))
same_numbers c (x ∷ xs) [] l a b = absurd (omega (arith, l))
same_numbers c (x ∷ xs) (y ∷ ys) l a b =
    let here = a.0 ∙ sym b.0 in
    let more = same_numbers c xs ys (omega (arith, l)) a.1 b.1 in
    λ i. here i ∷ more i

-- ---- texts at places that stay
module _ (n : ℕ) (old new : List Text) (same : (i : ℕ) → i < n → slice_get new i ≡ slice_get old i) where
  mention_named : (m : Mention) → AreBelow n (m ∷ []) → HasText old m → HasText new m
  mention_named (a_name p) b h = subst (λ (t : Text). HasText (t ∷ []) (a_name 0)) (ap (λ (o : Option Text). unwrap_or o []) (sym (same p b.0))) h
  mention_named (a_symbol p) b h = subst (λ (t : Text). HasText (t ∷ []) (a_symbol 0)) (ap (λ (o : Option Text). unwrap_or o []) (sym (same p b.0))) h
  mention_named (a_number z) b h = h

  mentions_named : (ms : List Mention) → AreBelow n ms → HaveTexts old ms → HaveTexts new ms
  mentions_named [] b h = tt
  mentions_named (m ∷ ms) b h = (mention_named m (b.0, tt) h.0, mentions_named ms b.1 h.1)

  table_texts : (ts : List TableDecl) → AreBelow n (flat_map table_mentions ts) → texts_of new ts ≡ texts_of old ts
  table_texts [] b = refl
  table_texts (t ∷ ts) b =
      let here : text_at new t.name ≡ text_at old t.name = ap (λ (o : Option Text). unwrap_or o []) (same t.name b.0) in
      let more = table_texts ts b.1 in
      λ i. here i ∷ more i

-- a table holds the name
abbrev InTableAt : ℕ → Tables → Type 0
InTableAt i ts = (t : ℕ) × (t < length ts) × HoldsName (table ts t) i

-- ---- the session behind it
-- with other names and tables, over which it is as opened
abbrev pub anew : LiveView → Replacement → ℕ → LiveView
anew v r generation = record {
  file = v.file;
  lists = v.lists;
  opened = r.history.opened;
  first_names = r.history.first_names;
  handler_names = v.handler_names;
  most_names = v.most_names;
  names = r.names;
  tables = held r.tables.parts.items;
  seed = v.seed;
  factors = factors_in r.tables.parts.items;
  generation = generation;
  tickets = record { next = v.tickets.next; tickets = []; acts = idle_tickets v.tickets.next };
  driven = r.history.driven;
  lines = r.history.lines;
  replies = r.history.replies;
}

-- the history that a renewal begins
abbrev begun : List (List Pair) → List Text → History
begun opened names = record { opened = opened; first_names = names; driven = 0; lines = []; replies = [] }

module _ (v : LiveView) (live : IsLive v) (ps : List Part) (is : held ps ≡ v.tables) (kinds : map kind_of (held ps) ≡ shape_of v.file) (r : Replacement) (new : IsRenewal v.names v.handler_names v.seed ps r) where
  abbrev lists : List (List Pair)
  lists = lists_in ps

  abbrev shape : List TableKind
  shape = shape_of v.file

  abbrev fs : List Bool
  fs = held_flags (length v.names) v.handler_names lists

  abbrev f : ℕ → ℕ
  f = place_in new.places

  abbrev opened : List (List Pair)
  opened = map (moved_entries f) lists

  abbrev IsIn : ℕ → Type 0
  IsIn i = (i < v.handler_names) ⊎ HasNameIn lists i

  nils : HaveNil shape lists
  nils = parts_nil shape ps kinds

  prints : PrintEach v.names shape lists
  prints = print_each v.names shape ps kinds new.apart (subst (AllByRecursion (IsPrintableTable v.names)) (sym is) live.prints)

  long : v.handler_names ≤ length v.names
  long = let more = live.begins in omega (arith, live.handlers_first, ap (λ (l : List Text). length l) more.1, length-append v.first_names more.0)

  within : (i : ℕ) → IsIn i → i < length v.names
  within i (inl l) = omega (arith, l, long)
  within i (inr h) = let n = lists_named v.names shape lists i nils prints h in slice_get_within v.names i n.text n.at

  set : (i : ℕ) → IsIn i → flag fs i ≡ true
  set i (inl l) = flag_first (length v.names) v.handler_names lists i l (omega (arith, l, long))
  set i (inr h) = flag_held (length v.names) v.handler_names lists i h (within i (inr h))

  some_text : (ns : List Text) (i : ℕ) → i < length ns → (t : Text) × (slice_get ns i ≡ Some t)
  some_text [] i l = absurd (omega (arith, l))
  some_text (t ∷ ns) zero l = (t, refl)
  some_text (t ∷ ns) (suc i) l = some_text ns i (omega (arith, l))

  text_kept : (i : ℕ) → i < length v.names → flag fs i ≡ true → slice_get r.names (f i) ≡ slice_get v.names i
  text_kept i l s =
      let t = some_text v.names i l in
      ap (λ (ns : List Text). slice_get ns (f i)) new.names_are
      ∙ ap (slice_get (kept fs v.names)) (new.places_are i l)
      ∙ kept_at fs v.names i t.0 s t.1
      ∙ sym t.1

  texts : (i : ℕ) → IsIn i → slice_get r.names (f i) ≡ slice_get v.names i
  texts i h = text_kept i (within i h) (set i h)

  one : (i j : ℕ) → IsIn i → IsIn j → f i ≡ f j → i ≡ j
  one i j a b e =
      let t = some_text v.names i (within i a) in
      new.distinct i j t.0 t.1 (sym (texts j b) ∙ ap (slice_get r.names) (sym e) ∙ texts i a ∙ t.1)

  handlers_kept : (i : ℕ) → i < v.handler_names → f i ≡ i
  handlers_kept i l = new.places_are i (omega (arith, l, long)) ∙ first_same i fs (λ j m. set j (inl (omega (arith, m, l))))

  in_flags : (i : ℕ) → flag fs i ≡ true → IsIn i
  in_flags i s = flag_from (length v.names) v.handler_names lists i s

  no_other : (j : ℕ) → j < length r.names → (i : ℕ) × IsIn i × (f i ≡ j)
  no_other j l =
      let c = comes fs v.names j (subst (λ (ns : List Text). j < length ns) new.names_are l) in
      (c.from, in_flags c.from c.set, new.places_are c.from c.within ∙ c.is)

  all_in : AllByRecursion (NamesOf IsIn) lists
  all_in = all_names lists IsIn (λ i h. inr h)

  tables_same : tables_of shape lists ≡ v.tables
  tables_same = tables_whole shape ps kinds ∙ is

  tables_new : held r.tables.parts.items ≡ tables_of shape opened
  tables_new = new.tables_are ∙ ap (λ (ks : List TableKind). tables_of ks opened) kinds

  moved : AreMoved f v.tables (held r.tables.parts.items)
  moved = subst (λ (ts : Tables). AreMoved f ts (held r.tables.parts.items)) tables_same
      (subst (AreMoved f (tables_of shape lists)) (sym tables_new) (tables_moved IsIn f one shape lists all_in))

  -- ---- the names that are held
  held_is_in : (i : ℕ) → IsHeld v i → IsIn i
  held_is_in i (inl l) = inl l
  held_is_in i (inr h) = inr (let x = subst (InTableAt i) (sym tables_same) h in has_in shape lists i x.0 x.1 x.2)

  in_is_held : (i : ℕ) → IsIn i → IsHeld v i
  in_is_held i (inl l) = inl l
  in_is_held i (inr h) =
      let t : InTable v.tables i = subst (λ (ts : Tables). InTable ts i) tables_same (in_table shape lists i nils new.apart h) in
      inr (t.number, t.within, t.holds)

  -- ---- what is written
  distinct : AreDistinct r.names
  distinct i j t a b =
      let A = subst (λ (ns : List Text). slice_get ns i ≡ Some t) new.names_are a in
      let B = subst (λ (ns : List Text). slice_get ns j ≡ Some t) new.names_are b in
      let c = comes fs v.names i (slice_get_within (kept fs v.names) i t A) in
      let d = comes fs v.names j (slice_get_within (kept fs v.names) j t B) in
      let p = from c t A in
      let q = from d t B in
      sym c.is ∙ ap (λ (k : ℕ). set_before k fs) (new.distinct c.from d.from t p q) ∙ d.is
    where
      from : {j : ℕ} (c : Comes fs v.names j) (t : Text) → slice_get (kept fs v.names) j ≡ Some t → slice_get v.names c.from ≡ Some t
      from {j} c t a =
          let u = some_text v.names c.from c.within in
          let same : u.0 ≡ t = same_Some u.0 t (sym (kept_at fs v.names c.from u.0 c.set u.1) ∙ ap (slice_get (kept fs v.names)) c.is ∙ a) in
          u.1 ∙ ap (λ (x : Text). Some x) same

  written_all : (ks : List TableKind) (ls : List (List Pair)) → HaveNil ks ls → AllByRecursion (NamesOf IsIn) ls → PrintEach v.names ks ls → map (written_table r.names) (tables_of ks (map (moved_entries f) ls)) ≡ map (written_table v.names) (tables_of ks ls)
  written_all [] [] n a h = refl
  written_all [] (es ∷ ls) n a h = absurd n
  written_all (k ∷ ks) [] n a h = absurd n
  written_all (Map ∷ ks) (es ∷ ls) n a h =
      let here = table_written IsIn f v.names r.names texts Map es new.distinct distinct (λ s. absurd (map_set s)) a.0 h.0 in
      let more = written_all ks ls n a.1 h.1 in
      λ i. here i ∷ more i
  written_all (Set ∷ ks) (es ∷ ls) n a h =
      let here = table_written IsIn f v.names r.names texts Set es new.distinct distinct (λ s. n.0) a.0 h.0 in
      let more = written_all ks ls n.1 a.1 h.1 in
      λ i. here i ∷ more i

  printed_all : (ks : List TableKind) (ls : List (List Pair)) → HaveNil ks ls → AllByRecursion (NamesOf IsIn) ls → PrintEach v.names ks ls → ArePrintable r.names (map (moved_entries f) ls)
  printed_all [] [] n a h = tt
  printed_all [] (es ∷ ls) n a h = absurd n
  printed_all (k ∷ ks) [] n a h = absurd n
  printed_all (Map ∷ ks) (es ∷ ls) n a h = (list_printable IsIn f v.names r.names texts Map es (λ s. absurd (map_set s)) a.0 h.0, printed_all ks ls n a.1 h.1)
  printed_all (Set ∷ ks) (es ∷ ls) n a h = (list_printable IsIn f v.names r.names texts Set es (λ s. n.0) a.0 h.0, printed_all ks ls n.1 a.1 h.1)

  printable : ArePrintable r.names opened
  printable = printed_all shape lists nils all_in prints

  -- ---- names of the handlers
  first_same_text : (i : ℕ) → i < v.handler_names → slice_get r.names i ≡ slice_get v.names i
  first_same_text i l = ap (slice_get r.names) (sym (handlers_kept i l)) ∙ texts i (inl l)

  named_now : IsNamedFile v.names v.file
  named_now = texts_kept v.first_names v.names live.begins (file_mentions v.file) live.named

  named : IsNamedFile r.names v.file
  named = mentions_named v.handler_names v.names r.names first_same_text (file_mentions v.file) live.handlers_below named_now

  tables_below : AreBelow v.handler_names (flat_map table_mentions v.file.tables)
  tables_below = (all_first (IsBelow v.handler_names) (flat_map table_mentions v.file.tables) (flat_map handler_mentions v.file.handlers) live.handlers_below).0

  dump_same : (generation : ℕ) → dump_of (anew v r generation) ≡ dump_of v
  dump_same generation =
      let tables : map (written_table r.names) (held r.tables.parts.items) ≡ map (written_table v.names) v.tables =
      ap (map (written_table r.names)) tables_new ∙ written_all shape lists nils all_in prints ∙ ap (map (written_table v.names)) tables_same in
      let heads : texts_of r.names v.file.tables ≡ texts_of v.names v.file.tables = table_texts v.handler_names v.names r.names first_same_text v.file.tables tables_below in
      λ i. table_text (heads i) (tables i)

  few : length r.names ≤ v.most_names
  few = omega (arith, ap (λ (ns : List Text). length ns) new.names_are, kept_few fs v.names, live.few)

  -- ---- what it keeps
  abbrev plain : ℕ → LiveView
  plain generation = record {
    file = v.file;
    lists = v.lists;
    opened = opened;
    first_names = r.names;
    handler_names = v.handler_names;
    most_names = v.most_names;
    names = r.names;
    tables = tables_of shape opened;
    seed = v.seed;
    factors = factors_in r.tables.parts.items;
    generation = generation;
    tickets = record { next = v.tickets.next; tickets = []; acts = idle_tickets v.tickets.next };
    driven = 0;
    lines = [];
    replies = [];
  }

  plain_live : (generation : ℕ) → IsLive (plain generation)
  plain_live generation =
      let none : rows 0 [] ≡ [] = rows_nil 0 in
      record {
        program = live.program;
        accepted = live.accepted;
        opens = entries_moved IsIn f one shape lists nils all_in new.apart new.pairs;
        named = named;
        known = handlers_known r.names v.file named;
        handlers_below = live.handlers_below;
        handlers_first = subst (λ (ns : List Text). v.handler_names ≤ length ns) (sym new.names_are) (first_few v.handler_names fs v.names (λ i l. set i (inl l)) long);
        printable = printable;
        fine = subst (λ (rs : List Row). AllByRecursion (λ (row : Row). line_fault r.names v.file row ≡ None) rs) (sym none) tt;
        begins = begins_same r.names;
        few = few;
        prints = opening_holds r.names shape opened printable;
        seeded = new.factors;
        desk = idle_desk (tables_of shape opened) v.tickets.next;
        names_are = λ alone. sym (ap (names_behind r.names) none ∙ behind_nil r.names);
        served = λ alone. subst (λ (rs : List Row). AreServed v.file (tables_of shape opened) (map (request_of r.names r.names v.file) rs) [] (tables_of shape opened)) (sym none) refl;
      }

  is_plain : (generation : ℕ) → anew v r generation ≡ plain generation
  is_plain generation = λ i. record (plain generation) {
    opened = (new.history_is i).opened;
    first_names = (new.history_is i).first_names;
    tables = tables_new i;
    driven = (new.history_is i).driven;
    lines = (new.history_is i).lines;
    replies = (new.history_is i).replies;
  }

  pub renewed_live : (generation : ℕ) → IsLive (anew v r generation)
  renewed_live generation = subst IsLive (sym (is_plain generation)) (plain_live generation)

  new_kinds : map kind_of (held r.tables.parts.items) ≡ shape
  new_kinds = ap (map kind_of) tables_new ∙ opening_kinds shape opened

  pub kinds_kept : map kind_of (held r.tables.parts.items) ≡ shape
  kinds_kept = new_kinds

  as_many : (ps qs : List Part) → map kind_of (held qs) ≡ map kind_of (held ps) → length (factors_in qs) ≡ length (factors_in ps)
  as_many ps qs e =
      length-map qs (λ (p : Part). (index_in p).factor)
      ∙ sym (length-map qs container_in) ∙ sym (length-map (held qs) kind_of) ∙ ap (λ (ks : List TableKind). length ks) e
      ∙ length-map (held ps) kind_of ∙ length-map ps container_in
      ∙ sym (length-map ps (λ (p : Part). (index_in p).factor))

  pub is_renewed : factors_in ps ≡ v.factors → IsRenewed v (anew v r (suc v.generation))
  is_renewed e = record {
    number = f;
    texts_still = λ i h. texts i (held_is_in i h);
    apart = λ i j a b. one i j (held_is_in i a) (held_is_in j b);
    handlers_kept = handlers_kept;
    no_other = λ j l. let c = no_other j l in (c.0, in_is_held c.0 c.1, c.2);
    tables_are = moved;
    dump_still = dump_same (suc v.generation);
    opened_are = tables_new ∙ ap (tables_of shape) (sym (ap (λ (h : History). h.opened) new.history_is));
    first_are = ap (λ (h : History). h.first_names) new.history_is;
    tickets_are = refl;
    none_driven = ap (λ (h : History). h.driven) new.history_is;
    no_lines = ap (λ (h : History). h.lines) new.history_is;
    no_replies = ap (λ (h : History). h.replies) new.history_is;
    generation_is = refl;
    file_still = refl;
    lists_still = refl;
    handlers_still = refl;
    most_still = refl;
    seed_still = refl;
    factors_still = same_numbers (factor_of v.seed) (factors_in r.tables.parts.items) v.factors (as_many ps r.tables.parts.items (new_kinds ∙ sym kinds) ∙ ap (λ (ns : List ℕ). length ns) e) new.factors live.seeded;
  }
