-- The text of a trace behind its session file is audited as accepted.
use Rattle.std.proofs.Common.{◌≡◌, ℕ, suc, ◌<◌, ◌≤◌, true, false, List, [], ◌∷◌, length, map, take, drop, IsUtf8, codes, refl, sym, ap, ◌∙◌, subst, arith}
use Rattle.std.specs.List.{list_all, list_any, AllByRecursion}
use Rattle.std.specs.Str.{bytes_eq}
use Rattle.std.proofs.lemmas.Slice.Eq.{bytes_eq-Decides}
use Rattle.std.proofs.lemmas.Bool.{and_parts}
use Rattle.session_values.specs.Names.{AreDistinct}
use Rattle.session_values.specs.Serial.{Session}
use Rattle.session_journal.specs.declared.event.Event.{Event}
use Rattle.session_journal.specs.Script.{Meaning}
use Rattle.handler_machine.specs.Scripts.{ScriptsView, meaning}
use Rattle.handler_syntax.specs.Language.{File}
use Rattle.handler_check.specs.Resolved.{shape_of}
use Rattle.text_lines.specs.Bytes.{is_blank}
use Rattle.text_lines.specs.Rows.{Row, rows}
use Rattle.text_lines.specs.Text.{Text, lines}
use Rattle.request_files.specs.Divide.{is_dividing}
use Rattle.request_files.specs.Requests.{no_requests}
use Rattle.request_files.specs.TracePart.{before_trace, behind_trace, has_trace, is_trace_mark, line_behind_trace}
use Rattle.serve_faults.specs.Command.TheVariants.{Audit}
use Rattle.serve_faults.specs.Accepted.{Accepted}
use Rattle.serve_faults.specs.Bare.{bare_script}
use Rattle.serve_faults.specs.Traces.{TraceView}
use Rattle.serve_faults.specs.Verdict.TheVariants.{Accepted as IsFine}
use Rattle.serve_faults.proofs.Bare.{accepted_back}
use Rattle.serve_faults.proofs.Counting.{accepted_few}
use Rattle.serve_faults.specs.EventRows.{IsTrace}
use Rattle.serve_faults.specs.EventText.{events_text}
use Rattle.serve_faults.specs.EventWords.{as_read}
use Rattle.serve_faults.specs.VerdictText.{accepted as accepted_line}
use Rattle.serve_faults.proofs.AsRead.{accepted_as_read}
use Rattle.serve_faults.proofs.WrittenBack.{trace_back, written_fine, written_trace}
use Rattle.serve_faults.specs.Audited.{IsAudited}
use Rattle.serve_faults.specs.Input.{IsInput, Parts, is_divided, parts_of, traced_fault}
use Rattle.serve_faults.specs.Session.{IsSession, all_names_of, handler_names_of, opening_names_of, session_of_parts, table_rows_of}
use Rattle.serve_faults.specs.Traced.{CanBeTold, IsTraced, table_places, traced_text}
use Rattle.file_laws.proofs.Sessions.{known_mid, lawful, symbols, view}
use Rattle.file_laws.proofs.ShortParts.{AreShort, are_short}
use Rattle.serve_faults.proofs.SymbolTexts.{handler_symbols, row_symbols}
use Rattle.file_laws.proofs.Utf8.{ascii_behind}
use Rattle.file_laws.specs.Joined.{AreReadBack, IsAcceptedTrace, MeetsLimits, joined}
use Rattle.file_laws.proofs.Ascii.{events_ascii}
use Rattle.file_laws.proofs.Fed.{fed, fed_lines, fed_utf8}
use Rattle.file_laws.proofs.Joined.{front_is, rest_is, traced}
use Rattle.file_laws.proofs.TraceSessions.{is_session_fed, names_fed, parts_are_fed, session_fed, with_feed}
use Rattle.file_laws.proofs.TraceNames.{tables_apart, tables_ascii, tables_named}
use Rattle.file_laws.proofs.Unmarked.{lines_unmarked}

as_many : (f : Event → Event) (es : List Event) → length (map f es) ≡ length es
as_many f [] = refl
as_many f (e ∷ es) = ap suc (as_many f es)

says_trace : (l : Text) → is_trace_mark l ≡ true → take 8 l ≡ codes "%% trace"
unfolding is_trace_mark
says_trace l e = (bytes_eq-Decides (take 8 l) (codes "%% trace")).0 (and_parts (bytes_eq (take 8 l) (codes "%% trace")) (list_all is_blank (drop 8 l)) e).0

module _ (input : Text) (marked : is_divided input ≡ true) (short : length input ≤ 4194304) (file : File) (is : IsSession (parts_of input) file) (es : List Event)
    (told : CanBeTold (all_names_of (parts_of input)) file es) (accepted : Accepted (bare_script (session_of_parts (parts_of input) file)) es) where
  abbrev parts : Parts
  parts = parts_of input

  abbrev names : List Text
  names = all_names_of parts

  abbrev tables : List ℕ
  tables = table_places file

  abbrev written : Text
  written = events_text names tables es

  abbrev text : Text
  text = traced_text parts file es

  abbrev read : List Event
  read = map (as_read names) es

  abbrev script : Meaning
  script = bare_script (session_of_parts parts file)

  -- ---- there are no more events than a trace may have

  short_parts : AreShort parts
  short_parts = are_short input short

  abbrev whole : ScriptsView
  whole = view parts file is short_parts.handlers short_parts.tables short_parts.requests

  few : length es ≤ 440000
  few = accepted_few (meaning whole) es (lawful parts file is short_parts.handlers short_parts.tables short_parts.requests) (accepted_back (meaning whole) es accepted)

  -- ---- they read back

  distinct : AreDistinct names
  distinct = (symbols parts file is).distinct

  read_accepted : Accepted script read
  read_accepted = accepted_as_read names script es accepted

  reads_back : AreReadBack input file written es
  reads_back = record {
    fine = λ n. written_fine names tables (shape_of file) (tables_named parts file is) n es distinct (tables_apart parts file is) told.readable few;
    read = λ n new trace t. (trace_back names tables (shape_of file) (tables_named parts file is) new n es trace distinct (tables_apart parts file is) told.readable t).0;
    accepted = read_accepted;
  }

  -- ---- the joined file

  clean : list_any is_trace_mark (lines parts.requests) ≡ false
  clean = lines_unmarked is_trace_mark says_trace (opening_names_of parts) file (row_symbols (handler_names_of parts) (table_rows_of parts) (handler_symbols parts.handlers)).each (known_mid parts file is) parts.first (lines parts.requests) no_requests is.requests

  abbrev all : Text
  all = joined input text

  front : before_trace all ≡ fed input
  front = front_is input written marked clean

  parts_there : parts_of (before_trace all) ≡ with_feed parts
  parts_there = ap parts_of front ∙ parts_are_fed input marked

  names_there : all_names_of (parts_of (before_trace all)) ≡ names
  names_there = ap all_names_of parts_there ∙ names_fed parts file

  session_there : session_of_parts (parts_of (before_trace all)) file ≡ session_of_parts parts file
  session_there = ap (λ (p : Parts). session_of_parts p file) parts_there ∙ session_fed parts file

  abbrev there : List Row
  there = rows (line_behind_trace all) (lines written)

  abbrev trace : TraceView
  trace = record { events = read; lines = map (λ (r : Row). r.line) there }

  trace_there : IsTrace names names tables (shape_of file) there trace
  trace_there = written_trace names tables (shape_of file) (tables_named parts file is) (line_behind_trace all) es distinct (tables_apart parts file is) told.readable few

  audits : IsAudited all (accepted_line (length es))
  audits = record {
    file = file;
    is_session = subst (λ (p : Parts). IsSession p file) (sym parts_there) (is_session_fed parts file is);
    names = names;
    trace = trace;
    is_trace =
        subst (λ (ns : List Text). IsTrace ns names tables (shape_of file) (rows (line_behind_trace all) (lines (behind_trace all))) trace) (sym names_there)
        (subst (λ (t : Text). IsTrace names names tables (shape_of file) (rows (line_behind_trace all) (lines t)) trace) (sym (rest_is input written marked clean)) trace_there);
    verdict = IsFine;
    is_verdict = subst (λ (s : Session). Accepted (bare_script s) read) (sym session_there) read_accepted;
    text_is = ap accepted_line (sym (as_many (as_read names) es));
  }

  text_ascii : AllByRecursion (λ b. b < 128) text
  text_ascii =
      let back : AllByRecursion (λ b. b < 128) written = events_ascii names tables (shape_of file) (tables_ascii parts file is) es told.readable in
      (omega arith, (omega arith, (omega arith, (omega arith, (omega arith, (omega arith, (omega arith, (omega arith, (omega arith, back)))))))))

  divided_there : is_divided (before_trace all) ≡ true
  divided_there = ap is_divided front ∙ ap (list_any is_dividing) (fed_lines input) ∙ marked

  input_there : IsUtf8 input → MeetsLimits input text → IsInput Audit all
  input_there utf8 limits =
      let has : has_trace all ≡ true = traced input written marked clean in
      record {
        short = (limits.short, subst (λ (t : Text). length t ≤ 4194304) (sym front) limits.front);
        utf8 = ascii_behind (fed input) text (fed_utf8 input utf8) text_ascii;
        parts = λ i. traced_fault (divided_there i) (has i);
      }

  pub is_accepted : IsUtf8 input → IsAcceptedTrace input (traced_text (parts_of input) file es)
  is_accepted utf8 = record {
    file = file;
    is_session = is;
    events = es;
    accepted = accepted;
    text_is = refl;
    told = written;
    behind = refl;
    read = reads_back;
    audited = λ limits. (input_there utf8 limits, audits);
  }

pub accepted_trace : (input text : Text) → is_divided input ≡ true → length input ≤ 4194304 → IsUtf8 input → IsTraced input text → IsAcceptedTrace input text
accepted_trace input answer marked short utf8 t = subst (IsAcceptedTrace input) (sym t.text_is) (is_accepted input marked short t.file t.is_session t.events t.told t.accepted utf8)
