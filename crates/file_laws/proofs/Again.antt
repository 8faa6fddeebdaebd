-- Handlers, the text of tables and a dividing line are a session whose tables are these.
use Rattle.std.proofs.Common.{◌≡◌, ℕ, suc, ◌≤◌, true, false, ◌||◌, List, [], ◌∷◌, ◌++◌, length, map, slice_get, Some, None, codes, refl, sym, ap, ◌∙◌, append_assoc}
use Rattle.std.specs.List.{list_any, AllByRecursion}
use Rattle.session_journal.specs.Opening.{Pair, container_of, entries_of, tables_of}
use Rattle.session_values.specs.Serial.{tables_before}
use Rattle.session_values.specs.declared.kind.TableKind.{TableKind}
use Rattle.handler_check.specs.TableDecl.{TableDecl}
use Rattle.handler_syntax.specs.Language.{File, names_of}
use Rattle.handler_check.specs.Resolved.{shape_of}
use Rattle.text_lines.specs.Laws.{with_feeds}
use Rattle.text_lines.specs.Rows.{Row, names_behind, rows}
use Rattle.text_lines.specs.Text.{Text, lines}
use Rattle.text_lines.proofs.RowLemmas.{behind_nil, rows_nil}
use Rattle.text_lines.proofs.TextLemmas.{lines_nil}
use Rattle.text_lines.proofs.WholeTexts.{line_joined}
use Rattle.request_files.specs.Divide.{before, behind, is_dividing, is_table_mark, line_behind}
use Rattle.request_files.specs.Requests.{first_fault, no_requests, request_of}
use Rattle.request_files.specs.Session.{session}
use Rattle.request_files.proofs.RowLemmas.{first_nil}
use Rattle.table_lines.specs.Reading.{rows_from}
use Rattle.table_lines.specs.TableText.{Entry, WrittenTable, all_entries, entries_text, written_table}
use Rattle.table_lines.proofs.WordsBack.{rows_back}
use Rattle.table_lines.specs.Opened.{opened_by}
use Rattle.table_lines.specs.ReadBack.{AreReadBack, texts_of, written_kind}
use Rattle.table_lines.specs.TableRows.{AreTables, first_table_fault, table_of}
use Rattle.table_lines.proofs.NoFault.{tables_fine}
use Rattle.table_lines.proofs.ReadBack.{tables_back}
use Rattle.serve_faults.specs.Input.{Parts, front_of, is_divided, parts_by, parts_of}
use Rattle.serve_faults.specs.Session.{IsProgram, IsSession, all_names_of, opened_of, opening_names_of, session_of_parts, table_fault}
use Rattle.file_laws.proofs.Dividing.{IsFront, IsWhole, any_is, any_joined, before_is, behind_is, lines_after, whole_joined}
use Rattle.file_laws.proofs.EntryLines.{IsSayable, entries_undivided, entries_whole, readable}
use Rattle.file_laws.proofs.Openings.{opened_at, opened_length}
use Rattle.file_laws.proofs.Sessions.{AreSayable}
use Rattle.serve_faults.proofs.SymbolTexts.{AreSymbols, row_symbols}

-- ---- the parts of the file

tables_marks : is_table_mark (codes "%% tables") ≡ true
unfolding is_table_mark
tables_marks = refl

tables_divide_not : is_dividing (codes "%% tables") ≡ false
unfolding is_dividing
tables_divide_not = refl

divides : is_dividing (codes "%%") ≡ true
unfolding is_dividing
divides = refl

module _ (handlers : Text) (front : IsFront handlers) (es : List Entry) (say : AllByRecursion IsSayable es) (requests : Text) where
  abbrev tables : Text
  tables = codes "%% tables" ++ 10 ∷ entries_text es

  abbrev pub whole : Text
  whole = handlers ++ (tables ++ (codes "%%" ++ 10 ∷ requests))

  abbrev first : Text
  first = handlers ++ tables

  tables_lines : lines tables ≡ codes "%% tables" ∷ lines (entries_text es)
  tables_lines = line_joined (codes "%% tables") (entries_text es) refl

  tables_whole : IsWhole tables
  tables_whole = ap with_feeds tables_lines ∙ ap (λ (t : Text). codes "%% tables" ++ 10 ∷ t) (entries_whole es say)

  first_whole : IsWhole first
  first_whole = whole_joined handlers tables front.whole tables_whole

  tables_undivided : list_any is_dividing (lines tables) ≡ false
  tables_undivided = ap (list_any is_dividing) tables_lines ∙ ap (λ b. b || list_any is_dividing (lines (entries_text es))) tables_divide_not ∙ entries_undivided es say

  first_undivided : list_any is_dividing (lines first) ≡ false
  first_undivided = ap (list_any is_dividing) (lines_after handlers tables front.whole) ∙ any_joined is_dividing (lines handlers) (lines tables) front.undivided tables_undivided

  split : whole ≡ first ++ (codes "%%" ++ 10 ∷ requests)
  split = sym (append_assoc handlers tables (codes "%%" ++ 10 ∷ requests))

  pub divided : is_divided whole ≡ true
  divided = ap is_divided split ∙ any_is is_dividing first (codes "%%") requests first_whole first_undivided refl divides

  front_is : front_of whole ≡ first
  front_is = ap (before is_dividing) split ∙ before_is is_dividing first (codes "%%") requests first_whole first_undivided refl divides

  requests_are : behind is_dividing whole ≡ requests
  requests_are = ap (behind is_dividing) split ∙ behind_is is_dividing first (codes "%%") requests first_whole first_undivided refl divides

  handlers_are : before is_table_mark (front_of whole) ≡ handlers
  handlers_are = ap (before is_table_mark) front_is ∙ before_is is_table_mark handlers (codes "%% tables") (entries_text es) front.whole front.unmarked refl tables_marks

  tables_are : behind is_table_mark (front_of whole) ≡ entries_text es
  tables_are = ap (behind is_table_mark) front_is ∙ behind_is is_table_mark handlers (codes "%% tables") (entries_text es) front.whole front.unmarked refl tables_marks

  abbrev pub new_parts : Parts
  new_parts = parts_by handlers (entries_text es) requests (line_behind is_table_mark (front_of whole)) (line_behind is_dividing whole)

  pub parts_are : parts_of whole ≡ new_parts
  parts_are = λ i. parts_by (handlers_are i) (tables_are i) (requests_are i) (line_behind is_table_mark (front_of whole)) (line_behind is_dividing whole)

-- ---- the tables behind the serial run, by rows

abbrev pub final_by : List Text → File → List Row → List Row → List WrittenTable
final_by old file ts rs =
    map (written_table (names_behind (names_behind old ts) rs))
    (tables_before (session file (opened_by old (names_behind old ts) file.tables ts) (map (request_of (names_behind old ts) (names_behind (names_behind old ts) rs) file) rs))
    (length (map (request_of (names_behind old ts) (names_behind (names_behind old ts) rs) file) rs)))

none_rows : (n : ℕ) → rows n (lines []) ≡ []
none_rows n = ap (rows n) lines_nil ∙ rows_nil n

-- those that open
abbrev pub first_by : List Text → File → List Row → List WrittenTable
first_by old file ts = map (written_table (names_behind old ts)) (tables_of (shape_of file) (opened_by old (names_behind old ts) file.tables ts))

-- without requests they are the same
final_none : (old : List Text) (file : File) (ts : List Row) → final_by old file ts [] ≡ first_by old file ts
final_none old file ts = ap (λ (ns : List Text). map (written_table ns) (tables_of (shape_of file) (opened_by old (names_behind old ts) file.tables ts))) (behind_nil (names_behind old ts))

-- tables of which each is written so
same_tables : (new : List Text) (shape : List TableKind) (ws : List WrittenTable) (lists : List (List Pair)) → map written_kind ws ≡ shape
    → ((i : ℕ) (t : WrittenTable) → slice_get ws i ≡ Some t → written_table new (container_of (written_kind t) (entries_of lists i)) ≡ t)
    → map (written_table new) (tables_of shape lists) ≡ ws
same_tables new [] [] lists e h = refl
same_tables new [] (w ∷ ws) lists e h = absurd (cc)
same_tables new (k ∷ shape) [] lists e h = absurd (cc)
same_tables new (k ∷ shape) (w ∷ ws) [] e h =
    let kind : written_kind w ≡ k = cc in
    let kinds : map written_kind ws ≡ shape = cc in
    ap (λ (x : TableKind). written_table new (container_of x []) ∷ map (written_table new) (tables_of shape [])) (sym kind)
    ∙ ap (λ (x : WrittenTable). x ∷ map (written_table new) (tables_of shape [])) (h 0 w refl)
    ∙ ap (λ (xs : List WrittenTable). w ∷ xs) (same_tables new shape ws [] kinds (λ i t g. h (suc i) t g))
same_tables new (k ∷ shape) (w ∷ ws) (es ∷ lists) e h =
    let kind : written_kind w ≡ k = cc in
    let kinds : map written_kind ws ≡ shape = cc in
    ap (λ (x : TableKind). written_table new (container_of x es) ∷ map (written_table new) (tables_of shape lists)) (sym kind)
    ∙ ap (λ (x : WrittenTable). x ∷ map (written_table new) (tables_of shape lists)) (h 0 w refl)
    ∙ ap (λ (xs : List WrittenTable). w ∷ xs) (same_tables new shape ws lists kinds (λ i t g. h (suc i) t g))

kinds_length : (ws : List WrittenTable) (ds : List TableDecl) → map written_kind ws ≡ map (λ (d : TableDecl). d.kind) ds → length ws ≡ length ds
kinds_length [] [] e = refl
kinds_length [] (d ∷ ds) e = absurd (cc)
kinds_length (w ∷ ws) [] e = absurd (cc)
kinds_length (w ∷ ws) (d ∷ ds) e = ap suc (kinds_length ws ds (let rest : map written_kind ws ≡ map (λ (d : TableDecl). d.kind) ds = cc in rest))

-- ---- the session

module _ (old : List Text) (file : File) (n : ℕ) (ws : List WrittenTable) (w : AreSayable old file.tables ws) (symbols : AreSymbols old)
    (differ : (i : ℕ) (t : Text) → slice_get (texts_of old file.tables) i ≡ Some t → table_of old file.tables t ≡ i) (few : length (all_entries (texts_of old file.tables) ws) ≤ 100000) where
  abbrev entries : List Entry
  entries = all_entries (texts_of old file.tables) ws

  abbrev rs : List Row
  rs = rows_from n entries

  abbrev mid : List Text
  mid = names_behind old rs

  pub fine : first_table_fault old file.tables [] (rows_from n (all_entries (texts_of old file.tables) ws)) ≡ None
  fine = tables_fine old file.tables n ws (record { differ = differ; kinds = w.kinds; readable = readable entries w.say; few = few })

  read : AreTables old mid file.tables rs (opened_by old mid file.tables rs)
  read = record { fine = fine; count = opened_length old mid file.tables rs; entries = λ i h. opened_at old mid file.tables rs i h; names = refl }

  back : AreReadBack old mid file.tables n ws (opened_by old mid file.tables rs)
  back = record { differ = differ; readable = readable entries w.say; distinct = (row_symbols old rs symbols).distinct; count = kinds_length ws file.tables w.kinds; read = read }

  pub first_is : first_by old file (rows_from n (all_entries (texts_of old file.tables) ws)) ≡ ws
  first_is = same_tables mid (shape_of file) ws (opened_by old mid file.tables rs) w.kinds (λ i t g. tables_back old mid file.tables n ws (opened_by old mid file.tables rs) back i t g)

  pub final_is : final_by old file (rows_from n (all_entries (texts_of old file.tables) ws)) [] ≡ ws
  final_is = final_none old file rs ∙ first_is

-- the tables with which some parts open
abbrev pub first_of : Parts → File → List WrittenTable
first_of parts file = map (written_table (opening_names_of parts)) (tables_of (shape_of file) (opened_of parts file))

-- the tables behind the serial run of some parts
abbrev pub final_of : Parts → File → List WrittenTable
final_of parts file = map (written_table (all_names_of parts)) (tables_before (session_of_parts parts file) (session_of_parts parts file).requests)

module _ (handlers : Text) (file : File) (program : IsProgram handlers file) (front : IsFront handlers) (ws : List WrittenTable) (w : AreSayable (names_of [] handlers) file.tables ws) (symbols : AreSymbols (names_of [] handlers))
    (differ : (i : ℕ) (t : Text) → slice_get (texts_of (names_of [] handlers) file.tables) i ≡ Some t → table_of (names_of [] handlers) file.tables t ≡ i)
    (few : length (all_entries (texts_of (names_of [] handlers) file.tables) ws) ≤ 100000) where
  abbrev old : List Text
  old = names_of [] handlers

  abbrev es : List Entry
  es = all_entries (texts_of old file.tables) ws

  abbrev parts : Text → Parts
  parts requests = new_parts handlers front es w.say requests

  rows_are : (requests : Text) → rows (parts requests).first_table (lines (parts requests).tables) ≡ rows_from (parts requests).first_table es
  rows_are requests = rows_back (parts requests).first_table es (readable es w.say)

  pub new_fine : (requests : Text) → table_fault (new_parts handlers front (all_entries (texts_of (names_of [] handlers) file.tables) ws) w.say requests) file ≡ None
  new_fine requests = ap (first_table_fault old file.tables []) (rows_are requests) ∙ fine old file (parts requests).first_table ws w symbols differ few

  pub new_first : (requests : Text) → first_of (new_parts handlers front (all_entries (texts_of (names_of [] handlers) file.tables) ws) w.say requests) file ≡ ws
  new_first requests = ap (first_by old file) (rows_are requests) ∙ first_is old file (parts requests).first_table ws w symbols differ few

  pub new_session : IsSession (new_parts handlers front (all_entries (texts_of (names_of [] handlers) file.tables) ws) w.say []) file
  new_session = record {
    program = program;
    tables = new_fine [];
    requests = ap (first_fault (names_behind old (rows (parts []).first_table (lines (parts []).tables))) file no_requests) (none_rows (parts []).first) ∙ first_nil (names_behind old (rows (parts []).first_table (lines (parts []).tables))) file no_requests;
  }

  pub new_final : final_of (new_parts handlers front (all_entries (texts_of (names_of [] handlers) file.tables) ws) w.say []) file ≡ ws
  new_final =
      ap (λ (ts : List Row). final_by old file ts (rows (parts []).first (lines (parts []).requests))) (rows_are [])
      ∙ ap (final_by old file (rows_from (parts []).first_table es)) (none_rows (parts []).first)
      ∙ final_is old file (parts []).first_table ws w symbols differ few
