-- The tables behind the serial run of a session can be written as lines that are read.
use Rattle.std.proofs.Common.{◌≡◌, ◌≤◌, ◌^◌, List, [], ◌∷◌, length, map, refl, ap, ◌∙◌, arith}
use Rattle.std.specs.List.{AllByRecursion}
use Rattle.session_journal.specs.Opening.{Pair}
use Rattle.session_values.specs.Names.{Begins}
use Rattle.session_values.specs.ReplyText.{IsPrintable}
use Rattle.session_values.specs.Serial.{tables_before}
use Rattle.session_values.specs.Tables.{Bindings, Container, Members, Tables, kind_of}
use Rattle.session_values.specs.declared.kind.TableKind.{TableKind}
use Rattle.session_values.proofs.Named.{begins_then, printable_kept}
use Rattle.handler_check.specs.Mentions.{AreNamed, file_mentions}
use Rattle.handler_check.specs.TableDecl.{TableDecl}
use Rattle.handler_check.proofs.Mentions.{below_kept}
use Rattle.handler_syntax.proofs.NamesGrow.{names_few}
use Rattle.handler_syntax.specs.Words.{words_of}
use Rattle.handler_syntax.proofs.Said.{have_texts, source_readable, texts_below}
use Rattle.handler_syntax.proofs.Bounded.{keeps_bounds}
use Rattle.handler_syntax.proofs.TextsKept.{texts_kept as mentions_kept}
use Rattle.handler_syntax.specs.Language.{File, IsNamedFile, KeepsBounds}
use Rattle.handler_check.proofs.Fine.{few_tables}
use Rattle.text_lines.specs.Text.{Text}
use Rattle.text_lines.proofs.RowLemmas.{behind_begins}
use Rattle.request_files.proofs.HandlerLemmas.{named_known as handlers_known}
use Rattle.request_files.proofs.PrintableLemmas.{printable}
use Rattle.request_files.proofs.RowLemmas.{known_kept as handlers_kept}
use Rattle.request_files.specs.Requests.{AreKnown as AreHandlers, ArePrintable}
use Rattle.request_files.specs.Servable.{IsServable}
use Rattle.table_lines.specs.TableText.{WrittenTable, all_entries, written_table}
use Rattle.table_lines.specs.ReadBack.{texts_of, written_kind}
use Rattle.table_lines.specs.TableRows.{AreKnown, ArePrintable as ArePrintableEntries}
use Rattle.table_lines.proofs.Going.{named_known, tables_printable}
use Rattle.session_journal.specs.Script.{IsScript}
use Rattle.handler_machine.proofs.Lawful.{is_script}
use Rattle.handler_machine.specs.Scripts.{KeepsScripts, ScriptsView, meaning}
use Rattle.serve_faults.specs.Input.{Parts}
use Rattle.serve_faults.specs.Printable.{IsPrintableTable}
use Rattle.serve_faults.specs.Session.{IsSession, all_names_of, handler_names_of, opened_of, opening_names_of, requests_of, rows_of, session_of_parts, table_rows_of}
use Rattle.serve_faults.proofs.PrintableRuns.{tables_hold}
use Rattle.file_laws.proofs.EntryLines.{IsSayable}
use Rattle.file_laws.proofs.Openings.{AreOpen, are_open}
use Rattle.file_laws.proofs.Readable.{tables_said}
use Rattle.file_laws.proofs.Requested.{are_requests, servable}
use Rattle.file_laws.proofs.Room.{behind_room, text_total}
use Rattle.file_laws.proofs.Served.{AreHeld, held_before}
use Rattle.serve_faults.proofs.SymbolTexts.{AreSymbols, handler_symbols, row_symbols}
use Rattle.file_laws.proofs.TableNames.{texts_symbols}

-- tables that can be written as a table part of these
pub record AreSayable (old : List Text) (decls : List TableDecl) (tables : List WrittenTable) : Type 0 where
  pub say : AllByRecursion IsSayable (all_entries (texts_of old decls) tables)
  pub kinds : map written_kind tables ≡ map (λ (d : TableDecl). d.kind) decls

-- ---- what is kept by more names

entries_kept : (old new : List Text) (es : List Pair) → Begins old new → AllByRecursion (λ (e : Pair). IsPrintable old e.0 × IsPrintable old e.1) es → AllByRecursion (λ (e : Pair). IsPrintable new e.0 × IsPrintable new e.1) es
entries_kept old new [] b h = tt
entries_kept old new (e ∷ es) b h = ((printable_kept old new e.0 b h.0.0, printable_kept old new e.1 b h.0.1), entries_kept old new es b h.1)

lists_kept : (old new : List Text) (lists : List (List Pair)) → Begins old new → ArePrintableEntries old lists → ArePrintableEntries new lists
lists_kept old new [] b h = tt
lists_kept old new (es ∷ lists) b h = (entries_kept old new es b h.0, lists_kept old new lists b h.1)

-- ---- kinds of what is written

kind_written : (names : List Text) (c : Container) → written_kind (written_table names c) ≡ kind_of c
kind_written names (Bindings m) = refl
kind_written names (Members s) = refl

kinds_written : (names : List Text) (ts : Tables) → map written_kind (map (written_table names) ts) ≡ map kind_of ts
kinds_written names [] = refl
kinds_written names (t ∷ ts) = ap (λ (k : TableKind). k ∷ map written_kind (map (written_table names) ts)) (kind_written names t) ∙ ap (λ (ks : List TableKind). kind_of t ∷ ks) (kinds_written names ts)

-- ---- a session

-- its handlers' names place tables and handlers
module _ (parts : Parts) (file : File) (is : IsSession parts file) where
  pub named_old : IsNamedFile (handler_names_of parts) file
  named_old = have_texts (handler_names_of parts) (file_mentions file) (source_readable [] parts.handlers file is.program.form)

  below : AreNamed (handler_names_of parts) (file_mentions file)
  below = texts_below (handler_names_of parts) (file_mentions file) named_old

  pub known : AreKnown (handler_names_of parts) file.tables
  known = named_known (handler_names_of parts) file below

  old_mid : Begins (handler_names_of parts) (opening_names_of parts)
  old_mid = behind_begins (handler_names_of parts) (table_rows_of parts)

  mid_all : Begins (opening_names_of parts) (all_names_of parts)
  mid_all = behind_begins (opening_names_of parts) (rows_of parts)

  pub old_all : Begins (handler_names_of parts) (all_names_of parts)
  old_all = begins_then _ _ _ old_mid mid_all

  pub known_mid : AreHandlers (opening_names_of parts) file
  known_mid = handlers_kept (handler_names_of parts) (opening_names_of parts) file old_mid (handlers_known (handler_names_of parts) file below)

  pub named_all : IsNamedFile (all_names_of parts) file
  named_all = mentions_kept (handler_names_of parts) (all_names_of parts) old_all (file_mentions file) named_old

  pub symbols : AreSymbols (all_names_of parts)
  symbols = row_symbols (opening_names_of parts) (rows_of parts) (row_symbols (handler_names_of parts) (table_rows_of parts) (handler_symbols parts.handlers))

  module _ (h : length parts.handlers ≤ 4194304) (t : length parts.tables ≤ 4194304) (q : length parts.requests ≤ 4194304) where
    few_old : length (handler_names_of parts) ≤ 4194304
    few_old = omega (arith, names_few [] parts.handlers, h)

    opened : AreOpen (handler_names_of parts) file.tables (table_rows_of parts) known is.tables
    opened = are_open (handler_names_of parts) file.tables (table_rows_of parts) known is.tables (omega (arith, few_tables file is.program.accepted.keeps)) (omega (arith, few_old, text_total parts.first_table parts.tables, t))

    few_mid : length (opening_names_of parts) ≤ 8388608
    few_mid = omega (arith, behind_room (handler_names_of parts) (table_rows_of parts), few_old, text_total parts.first_table parts.tables, t)

    pub few_all : length (all_names_of parts) ≤ 12582912
    few_all = omega (arith, behind_room (opening_names_of parts) (rows_of parts), few_mid, text_total parts.first parts.requests, q)

    served : IsServable file (requests_of parts file)
    served = servable (opening_names_of parts) file (rows_of parts) known_mid is.requests (omega (arith, few_mid, text_total parts.first parts.requests, q))

    bounds : KeepsBounds file
    bounds = keeps_bounds (words_of [] parts.handlers) file is.program.form (below_kept (length (handler_names_of parts)) (2 ^ 32) (file_mentions file) (omega (arith, few_old)) below)

    abbrev pub view : ScriptsView
    view = record { program = record { file = file; lists = is.program.lists }; opening = opened_of parts file; requests = requests_of parts file }

    pub keeps : KeepsScripts view
    keeps = record { program = record { accepted = is.program.accepted; bounds = bounds; later = is.program.later }; opening = opened.opens; servable = served }

    pub lawful : IsScript (meaning view)
    lawful = is_script view keeps

    held : AreHeld (meaning view) (tables_before (session_of_parts parts file) (session_of_parts parts file).requests)
    held = held_before (meaning view) lawful (length (requests_of parts file)) (omega arith)

    pub opens_print : ArePrintableEntries (all_names_of parts) (opened_of parts file)
    opens_print = lists_kept (opening_names_of parts) (all_names_of parts) (opened_of parts file) mid_all (tables_printable (handler_names_of parts) (opening_names_of parts) file.tables (table_rows_of parts) (opened_of parts file) opened.tables)

    pub requests_print : ArePrintable (all_names_of parts) (requests_of parts file)
    requests_print = printable (opening_names_of parts) (all_names_of parts) file (rows_of parts) (requests_of parts file) (are_requests (opening_names_of parts) file (rows_of parts) known_mid is.requests)

    print : AllByRecursion (IsPrintableTable (all_names_of parts)) (tables_before (session_of_parts parts file) (session_of_parts parts file).requests)
    print =
        tables_hold (all_names_of parts) file (opened_of parts file) (requests_of parts file) named_all opens_print requests_print
        (length (requests_of parts file))

    -- the tables behind the serial run can be written as a table part of the same handlers
    pub final_sayable : AreSayable (handler_names_of parts) file.tables (map (written_table (all_names_of parts)) (tables_before (session_of_parts parts file) (session_of_parts parts file).requests))
    final_sayable =
        let ts : Tables = tables_before (session_of_parts parts file) (session_of_parts parts file).requests in
        record {
          say = tables_said (all_names_of parts) symbols (texts_of (handler_names_of parts) file.tables) ts (texts_symbols (handler_names_of parts) file.tables (handler_symbols parts.handlers).each known) held.values print;
          kinds = kinds_written (all_names_of parts) ts ∙ held.kinds;
        }
