-- The text of tables, part by part.
use Rattle.std.proofs.Common.{◌≡◌, ℕ, zero, suc, ◌+◌, ◌<◌, ◌≤◌, List, [], ◌∷◌, ◌++◌, map as map_list, take, length, get_or, refl, sym, ◌∙◌, ap, subst, append_assoc, append-nil, arith, Option, Some, slice_get}
use Rattle.std.proofs.lemmas.List.{take_all, take_more}
use Rattle.std.proofs.lemmas.Option.{get_or_from_slice_get, slice_get_within}
use Rattle.byte_ends.specs.Ends.{Appended, AppendedPrefix}
use Rattle.byte_ends.proofs.EndsLemmas.{front_of_more, grew_front_within, grew_more}
use Rattle.session_values.specs.Opening.{Pair, entries_of, tables_of}
use Rattle.syntax_trees.specs.declared.file.TableDecl.{TableDecl}
use Rattle.table_lines.specs.TableText.{Entry, WrittenTable, all_entries, entries_text, entry_line, written_table}
use Rattle.table_lines.specs.Written.{text_at}
use Rattle.table_lines.specs.Dumped.{CanDump, CanDumpEach, HaveRoom, dump_text, part_text}
use Rattle.table_lines.specs.Lines.{head_text, parts_text}

text_join : (xs ys : List Entry) → entries_text (xs ++ ys) ≡ entries_text xs ++ entries_text ys
text_join [] ys = refl
text_join (x ∷ xs) ys = ap (λ (t : List ℕ). entry_line x ++ t) (text_join xs ys) ∙ sym (append_assoc (entry_line x) (entries_text xs) (entries_text ys))

abbrev tail : List (List Pair) → List (List Pair)
tail [] = []
tail (es ∷ lists) = lists

module _ (names : List (List ℕ)) where
  abbrev texts : List TableDecl → List (List ℕ)
  texts ds = map_list (λ (t : TableDecl). text_at names t.name) ds

  abbrev tables : List TableDecl → List (List Pair) → List WrittenTable
  tables ds lists = map_list (written_table names) (tables_of (map_list (λ (t : TableDecl). t.kind) ds) lists)

  parts_are : (ds : List TableDecl) (lists : List (List Pair)) → entries_text (all_entries (texts ds) (tables ds lists)) ≡ parts_text names ds lists
  unfolding parts_text
  parts_are [] lists = refl
  parts_are (d ∷ ds) [] = text_join _ (all_entries (texts ds) (tables ds [])) ∙ ap (λ (t : List ℕ). part_text names d.name d.kind [] ++ t) (parts_are ds [])
  parts_are (d ∷ ds) (es ∷ lists) = text_join _ (all_entries (texts ds) (tables ds lists)) ∙ ap (λ (t : List ℕ). part_text names d.name d.kind es ++ t) (parts_are ds lists)

  pub whole_text : (ds : List TableDecl) (lists : List (List Pair)) → dump_text names ds lists ≡ head_text ++ parts_text names ds lists
  whole_text ds lists = ap (λ (t : List ℕ). head_text ++ t) (parts_are ds lists)

  pub no_parts : (lists : List (List Pair)) → parts_text names [] lists ≡ []
  unfolding parts_text
  no_parts lists = refl

  abbrev part : TableDecl → List Pair → List ℕ
  part d es = part_text names d.name d.kind es

  -- the parts before a table, its own, and those behind it
  pub record Cut (ds : List TableDecl) (lists : List (List Pair)) (i : ℕ) (d : TableDecl) : Type 0 where
    pub rest : List ℕ
    pub whole : parts_text names ds lists ≡ parts_text names (take i ds) lists ++ (part d (entries_of lists i) ++ rest)
    pub front : parts_text names (take (suc i) ds) lists ≡ parts_text names (take i ds) lists ++ part d (entries_of lists i)

  first_cut : (t : TableDecl) (ds : List TableDecl) (lists : List (List Pair)) → Cut (t ∷ ds) lists 0 t
  unfolding parts_text
  first_cut t ds [] = record { rest = parts_text names ds []; whole = refl; front = append-nil (part t []) }
  first_cut t ds (es ∷ lists) = record { rest = parts_text names ds lists; whole = refl; front = append-nil (part t es) }

  next_cut : (t : TableDecl) (ds : List TableDecl) (lists : List (List Pair)) (i : ℕ) (d : TableDecl) → Cut ds (tail lists) i d → Cut (t ∷ ds) lists (suc i) d
  unfolding parts_text
  next_cut t ds [] i d c = record {
    rest = c.rest;
    whole = ap (λ (x : List ℕ). part t [] ++ x) c.whole ∙ sym (append_assoc (part t []) (parts_text names (take i ds) []) (part d (entries_of [] i) ++ c.rest));
    front = ap (λ (x : List ℕ). part t [] ++ x) c.front ∙ sym (append_assoc (part t []) (parts_text names (take i ds) []) (part d (entries_of [] i)));
  }
  next_cut t ds (es ∷ lists) i d c = record {
    rest = c.rest;
    whole = ap (λ (x : List ℕ). part t es ++ x) c.whole ∙ sym (append_assoc (part t es) (parts_text names (take i ds) lists) (part d (entries_of lists i) ++ c.rest));
    front = ap (λ (x : List ℕ). part t es ++ x) c.front ∙ sym (append_assoc (part t es) (parts_text names (take i ds) lists) (part d (entries_of lists i)));
  }

  pub cut_at : (ds : List TableDecl) (lists : List (List Pair)) (i : ℕ) (d : TableDecl) → i < length ds → Cut ds lists i (get_or ds i d)
  cut_at [] lists i d h = absurd (omega (arith, h))
  cut_at (t ∷ ds) lists zero d h = first_cut t ds lists
  cut_at (t ∷ ds) lists (suc i) d h = next_cut t ds lists i (get_or ds i d) (cut_at ds (tail lists) i d (omega (arith, h)))

  -- ---- writing part by part
  module _ (ds : List TableDecl) (lists : List (List Pair)) where
    abbrev done : ℕ → List ℕ
    done i = head_text ++ parts_text names (take i ds) lists

    nothing_done : done 0 ≡ head_text
    nothing_done = ap (λ (t : List ℕ). head_text ++ t) (no_parts lists) ∙ append-nil head_text

    -- the first line was written, and no part
    pub none_written : (old new : Option (List ℕ)) → Appended old new head_text → Appended old new (done 0)
    none_written old new h = subst (Appended old new) (sym nothing_done) h

    -- a front of the first line was
    pub head_broken : (old new : Option (List ℕ)) → AppendedPrefix old new head_text → AppendedPrefix old new (dump_text names ds lists)
    head_broken old new h = subst (AppendedPrefix old new) (sym (whole_text ds lists)) (front_of_more old new head_text (parts_text names ds lists) h)

    -- one part more
    pub part_written : (old mid new : Option (List ℕ)) (es : List Pair) (i : ℕ) (d : TableDecl) → i < length ds → es ≡ entries_of lists i → Appended old mid (done i) → Appended mid new (part (get_or ds i d) es) → Appended old new (done (i + 1))
    part_written old mid new es i d lt is h more =
        let c = cut_at ds lists i d lt in
        let next : suc i ≡ i + 1 = omega arith in
        subst (Appended old new)
        (append_assoc head_text (parts_text names (take i ds) lists) (part (get_or ds i d) es)
        ∙ ap (λ (xs : List Pair). head_text ++ (parts_text names (take i ds) lists ++ part (get_or ds i d) xs)) is
        ∙ ap (λ (t : List ℕ). head_text ++ t) (sym c.front)
        ∙ ap done next)
        (grew_more old mid new (done i) (part (get_or ds i d) es) h more)

    -- a front of one
    pub part_broken : (old mid new : Option (List ℕ)) (es : List Pair) (i : ℕ) (d : TableDecl) → i < length ds → es ≡ entries_of lists i → Appended old mid (done i) → AppendedPrefix mid new (part (get_or ds i d) es) → AppendedPrefix old new (dump_text names ds lists)
    part_broken old mid new es i d lt is h broken =
        let c = cut_at ds lists i d lt in
        subst (AppendedPrefix old new)
        (append_assoc head_text (parts_text names (take i ds) lists) (part (get_or ds i d) es ++ c.rest)
        ∙ ap (λ (xs : List Pair). head_text ++ (parts_text names (take i ds) lists ++ (part (get_or ds i d) xs ++ c.rest))) is
        ∙ ap (λ (t : List ℕ). head_text ++ t) (sym c.whole)
        ∙ sym (whole_text ds lists))
        (grew_front_within old mid new (done i) (part (get_or ds i d) es) c.rest h broken)

    -- all of them
    pub all_written : (old new : Option (List ℕ)) (i : ℕ) → length ds ≤ i → Appended old new (done i) → Appended old new (dump_text names ds lists)
    all_written old new i le h =
        subst (Appended old new) (ap (λ (xs : List TableDecl). head_text ++ parts_text names xs lists) (take_all i ds le) ∙ sym (whole_text ds lists)) h

-- ---- each table
pub room_at : (room : ℕ) (lists : List (List Pair)) (i : ℕ) → HaveRoom room lists → length (entries_of lists i) ≤ room
room_at room [] i h = omega arith
room_at room (es ∷ lists) zero h = h.0
room_at room (es ∷ lists) (suc i) h = room_at room lists i h.1

pub lists_long : (names : List (List ℕ)) (ds : List TableDecl) (lists : List (List Pair)) → CanDumpEach names ds lists → length lists ≡ length ds
lists_long names [] [] h = refl
lists_long names [] (es ∷ lists) h = absurd h
lists_long names (d ∷ ds) [] h = absurd h
lists_long names (d ∷ ds) (es ∷ lists) h = ap suc (lists_long names ds lists h.1)

pub entries_at : (names : List (List ℕ)) (ds : List TableDecl) (lists : List (List Pair)) (i : ℕ) (d : TableDecl) → i < length ds → CanDumpEach names ds lists → CanDump names (get_or ds i d).kind (entries_of lists i)
entries_at names [] lists i d lt h = absurd (omega (arith, lt))
entries_at names (t ∷ ds) [] i d lt h = absurd h
entries_at names (t ∷ ds) (es ∷ lists) zero d lt h = h.0
entries_at names (t ∷ ds) (es ∷ lists) (suc i) d lt h = entries_at names ds lists i d (omega (arith, lt)) h.1

-- ---- the entries of one
pub taken_more : (es : List Pair) (i : ℕ) (e : Pair) (xs ys : List Pair) → slice_get es i ≡ Some e → xs ≡ take i es → ys ≡ xs ++ e ∷ [] → ys ≡ take (i + 1) es
taken_more es i e xs ys at before pushed =
    let lt : i < length es = slice_get_within es i e at in
    pushed
    ∙ ap (λ (zs : List Pair). zs ++ e ∷ []) before
    ∙ ap (λ (x : Pair). take i es ++ x ∷ []) (sym (get_or_from_slice_get es i e e at))
    ∙ sym (take_more es i e lt)
