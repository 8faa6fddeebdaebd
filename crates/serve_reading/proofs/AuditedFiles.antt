-- Session files that end in a trace: the session before it, its lines, and why it isn't judged.
use Rattle.std.proofs.Common.{◌≡◌, ℕ, ◌<◌, ◌≤◌, inr, Bool, true, false, List, [], ◌∷◌, length, map, take, drop, Some, refl, sym, ap, ◌∙◌, subst, arith, length-drop}
use Rattle.std.specs.Prelude.{IsUtf8}
use Rattle.std.specs.List.{flat_map}
use Rattle.std.proofs.lemmas.Option.{slice_get_within}
use Rattle.session_values.specs.Limits.{max_input}
use Rattle.session_values.specs.Names.{IsNamed}
use Rattle.syntax_trees.specs.declared.file.TableDecl.{TableDecl}
use Rattle.syntax_trees.specs.Mentions.{handler_mentions, table_mentions}
use Rattle.handler_syntax.specs.Language.{File, HasText, HaveTexts, IsNamedFile}
use Rattle.handler_syntax.proofs.Facts.{all_first, name_named}
use Rattle.handler_check.specs.Resolved.{shape_of}
use Rattle.request_files.specs.Divide.{Divides}
use Rattle.request_files.proofs.TraceSizes.{before_whole, front_long, line_within}
use Rattle.request_files.specs.Rows.{Row, rows}
use Rattle.request_files.specs.Text.{lines}
use Rattle.session_journal.specs.Traces.{TraceView}
use Rattle.trace_lines.specs.EventRows.{AreKnown, IsTrace, first_event_fault}
use Rattle.serve_faults.specs.Command.TheVariants.{Audit}
use Rattle.serve_faults.specs.declared.status.Fault.TheVariants as fault
use Rattle.serve_faults.specs.Audited.{audited_parts, event_rows_of}
use Rattle.serve_faults.specs.Traced.{table_places}
use Rattle.serve_faults.specs.Input.{IsInput, Parts, is_divided, max_audit_input, parts_by, traced_fault}
use Rattle.request_files.specs.TracePart.{IsTracePlace, before_trace, behind_trace, has_trace}
use Rattle.request_files.specs.declared.trace_part.TracePlace.{TracePlace}
use Rattle.serve_reading.specs.declared.session.Loaded.{Loaded}
use Rattle.serve_reading.specs.declared.auditing.Audited.{Audited}
use Rattle.serve_reading.specs.declared.load_error.LoadError.{LoadError}
use Rattle.serve_reading.specs.declared.load_error.LoadError.TheVariants.{Refused, NoMemory}
use Rattle.serve_reading.specs.Audits.{AreTraced, IsAuditOf, IsEventsReason, IsTracedReason}
use Rattle.serve_reading.specs.Reasons.{IsReason, IsSessionReason}
use Rattle.serve_reading.specs.Sessions.{IsLoaded}
use Rattle.serve_reading.proofs.Inputs.{parts_same}
use Rattle.serve_reading.proofs.Loading.{as_program}

-- ---- names of tables

places_below : (names : List (List ℕ)) (ts : List TableDecl) → HaveTexts names (flat_map table_mentions ts) → AreKnown names (map (λ (t : TableDecl). t.name) ts)
places_below names [] h = tt
places_below names (t ∷ ts) h = (below (name_named names t.name h.0), places_below names ts h.1) where
  below : IsNamed names t.name → t.name < length names
  below n = slice_get_within names t.name n.text n.at

pub tables_known : (names : List (List ℕ)) (file : File) → IsNamedFile names file → AreKnown names (table_places file)
tables_known names file named = places_below names file.tables (all_first (HasText names) (flat_map table_mentions file.tables) (flat_map handler_mentions file.handlers) named).0

-- ---- what was read

pub are_traced : (parts : Parts) (l : Loaded) (rs : List Row) (names : List (List ℕ)) (trace : TraceView) (a : Audited) → IsLoaded parts l
    → IsTrace l.names names (table_places l.program.file) (shape_of l.program.file) rs trace
    → a ≡ record { names = names; program = l.program; opening = l.opening; requests = l.requests; trace = trace } → AreTraced parts rs a
are_traced parts l rs names trace a h t is = subst (AreTraced parts rs) (sym is) here where
  here : AreTraced parts rs (record { names = names; program = l.program; opening = l.opening; requests = l.requests; trace = trace })
  here = record {
    program_of = h.program_of;
    tables_fine = h.tables_fine;
    fine = h.fine;
    opening_is = h.opening_is;
    opens = h.opens;
    requests_are = h.requests_are;
    servable = h.servable;
    is_trace = subst (λ (old : List (List ℕ)). IsTrace old names (table_places l.program.file) (shape_of l.program.file) rs trace) h.names_are t;
  }

-- ---- reasons

pub session_refused : (parts : Parts) (rs : List Row) (e : LoadError) → IsSessionReason parts e → IsTracedReason parts rs e
session_refused parts rs NoMemory h = tt
session_refused parts rs (Refused (fault.Syntax e)) h = h
session_refused parts rs (Refused (fault.Check e)) h = h
session_refused parts rs (Refused (fault.Analysis e)) h = h
session_refused parts rs (Refused (fault.Tables e)) h = h
session_refused parts rs (Refused (fault.Request e)) h = h
session_refused parts rs (Refused (fault.Trace e)) h = absurd h
session_refused parts rs (Refused (fault.Ranges e)) h = absurd h
session_refused parts rs (Refused fault.TooLarge) h = absurd h
session_refused parts rs (Refused fault.NotText) h = absurd h
session_refused parts rs (Refused fault.NoRequests) h = absurd h
session_refused parts rs (Refused fault.HasRequests) h = absurd h
session_refused parts rs (Refused fault.NoTrace) h = absurd h
session_refused parts rs (Refused fault.TooManyClients) h = absurd h

pub events_refused : (parts : Parts) (l : Loaded) (rs : List Row) (e : LoadError) → IsLoaded parts l → IsEventsReason l.names l.program.file rs e → IsTracedReason parts rs e
events_refused parts l rs NoMemory h r = tt
events_refused parts l rs (Refused (fault.Trace e)) h r = record {
  file = l.program.file;
  is_session = record { program = as_program parts.handlers l.program h.program_of; tables = h.tables_fine; requests = h.fine };
  first = subst (λ (old : List (List ℕ)). first_event_fault old (table_places l.program.file) (shape_of l.program.file) 0 rs ≡ Some e) h.names_are r;
}
events_refused parts l rs (Refused (fault.Syntax e)) h r = absurd r
events_refused parts l rs (Refused (fault.Check e)) h r = absurd r
events_refused parts l rs (Refused (fault.Analysis e)) h r = absurd r
events_refused parts l rs (Refused (fault.Tables e)) h r = absurd r
events_refused parts l rs (Refused (fault.Request e)) h r = absurd r
events_refused parts l rs (Refused (fault.Ranges e)) h r = absurd r
events_refused parts l rs (Refused fault.TooLarge) h r = absurd r
events_refused parts l rs (Refused fault.NotText) h r = absurd r
events_refused parts l rs (Refused fault.NoRequests) h r = absurd r
events_refused parts l rs (Refused fault.HasRequests) h r = absurd r
events_refused parts l rs (Refused fault.NoTrace) h r = absurd r
events_refused parts l rs (Refused fault.TooManyClients) h r = absurd r

-- ---- inputs

-- why a session before a trace part, or the lines of the part, are refused is why the input is
pub audit_reason : (input : List ℕ) (e : LoadError) → IsInput Audit input → IsTracedReason (audited_parts input) (event_rows_of input) e → IsReason Audit input e
audit_reason input NoMemory i h = tt
audit_reason input (Refused (fault.Syntax e)) i h = (i, h, refl)
audit_reason input (Refused (fault.Check e)) i h = (i, h, refl)
audit_reason input (Refused (fault.Analysis e)) i h = (i, h, refl)
audit_reason input (Refused (fault.Tables e)) i h = (i, refl, h)
audit_reason input (Refused (fault.Request e)) i h = (i, refl, h)
audit_reason input (Refused (fault.Trace e)) i h = (i, refl, record { file = h.file; is_session = h.is_session; first = h.first })
audit_reason input (Refused (fault.Ranges e)) i h = absurd h
audit_reason input (Refused fault.TooLarge) i h = absurd h
audit_reason input (Refused fault.NotText) i h = absurd h
audit_reason input (Refused fault.NoRequests) i h = absurd h
audit_reason input (Refused fault.HasRequests) i h = absurd h
audit_reason input (Refused fault.NoTrace) i h = absurd h
audit_reason input (Refused fault.TooManyClients) i h = absurd h

-- bounds and bytes of an input, with what stands before its trace part
module _ (input : List ℕ) (short : length input ≤ max_audit_input) (few : length (before_trace input) ≤ max_input) where
  pub no_text : (IsUtf8 input → ⊥) → IsReason Audit input (Refused fault.NotText)
  no_text none = ((short, few), none)

  module _ (utf8 : IsUtf8 input) where
    pub audit_input : is_divided (before_trace input) ≡ true → has_trace input ≡ true → IsInput Audit input
    audit_input divided traced = record { short = (short, few); utf8 = utf8; parts = ap (λ (b : Bool). traced_fault b (has_trace input)) divided ∙ ap (traced_fault true) traced }

    pub undivided : is_divided (before_trace input) ≡ false → IsReason Audit input (Refused fault.NoRequests)
    undivided none = ((short, few), utf8, ap (λ (b : Bool). traced_fault b (has_trace input)) none)

    pub without_trace : is_divided (before_trace input) ≡ true → has_trace input ≡ false → IsReason Audit input (Refused fault.NoTrace)
    without_trace divided none = ((short, few), utf8, ap (λ (b : Bool). traced_fault b (has_trace input)) divided ∙ ap (traced_fault true) none)

-- a file without a trace part
module _ (input : List ℕ) (short : length input ≤ max_audit_input) (none : has_trace input ≡ false) where
  pub untraced_large : max_input < length input → IsReason Audit input (Refused fault.TooLarge)
  untraced_large l = inr (subst (λ (t : List ℕ). max_input < length t) (sym (before_whole input none)) l)

  module _ (few : length input ≤ max_input) where
    front_few : length (before_trace input) ≤ max_input
    front_few = subst (λ (t : List ℕ). length t ≤ max_input) (sym (before_whole input none)) few

    pub untraced_bytes : (IsUtf8 input → ⊥) → IsReason Audit input (Refused fault.NotText)
    untraced_bytes bad = no_text input short front_few bad

    module _ (text : List ℕ) (same : text ≡ input) (utf8 : IsUtf8 text) where
      here : IsUtf8 input
      here = subst IsUtf8 same utf8

      lines_same : is_divided (before_trace input) ≡ is_divided text
      lines_same = ap is_divided (before_whole input none ∙ sym same)

      pub untraced_undivided : is_divided text ≡ false → IsReason Audit input (Refused fault.NoRequests)
      untraced_undivided e = undivided input short front_few here (lines_same ∙ e)

      pub untraced_divided : is_divided text ≡ true → IsReason Audit input (Refused fault.NoTrace)
      untraced_divided e = without_trace input short front_few here (lines_same ∙ e) none

-- a file with a trace part at this place
module _ (input : List ℕ) (p : TracePlace) (short : length input ≤ max_audit_input) (at : IsTracePlace input p) where
  pub traced_large : max_input < p.front → IsReason Audit input (Refused fault.TooLarge)
  traced_large l = inr (omega (arith, l, front_long input p at))

  module _ (few : p.front ≤ max_input) where
    before_few : length (before_trace input) ≤ max_input
    before_few = omega (arith, few, front_long input p at)

    pub traced_bytes : (IsUtf8 input → ⊥) → IsReason Audit input (Refused fault.NotText)
    traced_bytes bad = no_text input short before_few bad

    -- its text, cut there
    module _ (text front events : List ℕ) (same : text ≡ input) (utf8 : IsUtf8 text) (cut : front ≡ take p.front text) (rest : events ≡ drop p.rest text) where
      pub front_is : front ≡ before_trace input
      front_is = cut ∙ ap (take p.front) same ∙ at.front

      pub events_are : events ≡ behind_trace input
      events_are = rest ∙ ap (drop p.rest) same ∙ at.rest

      pub front_short : length front ≤ max_input
      front_short = subst (λ (t : List ℕ). length t ≤ max_input) (sym front_is) before_few

      pub events_short : length events ≤ max_audit_input
      events_short = omega (arith, ap (λ (t : List ℕ). length t) rest, ap (λ (t : List ℕ). length t) same, length-drop p.rest text, short)

      pub line_few : p.line ≤ 134217732
      line_few = omega (arith, at.line, line_within input, short)

      pub rows_are : rows p.line (lines events) ≡ event_rows_of input
      rows_are = ap (λ (t : List ℕ). rows p.line (lines t)) events_are ∙ ap (λ (n : ℕ). rows n (lines (behind_trace input))) at.line

      pub traced_undivided : is_divided front ≡ false → IsReason Audit input (Refused fault.NoRequests)
      traced_undivided e = undivided input short before_few (subst IsUtf8 same utf8) (ap is_divided (sym front_is) ∙ e)

      -- and the parts of what stands before it
      module _ (handlers tables requests : List ℕ) (first_table first : ℕ) (d : Divides front handlers tables requests first_table first) (found : has_trace input ≡ true) where
        parts_there : parts_by handlers tables requests first_table first ≡ audited_parts input
        parts_there = parts_same front (before_trace input) handlers tables requests first_table first d front_is

        pub traced_input : IsInput Audit input
        traced_input = audit_input input short before_few (subst IsUtf8 same utf8) (ap is_divided (sym front_is) ∙ d.marked) found

        pub audit_of : (a : Audited) → AreTraced (parts_by handlers tables requests first_table first) (rows p.line (lines events)) a → IsAuditOf input a
        audit_of a h = subst (λ (q : Parts). AreTraced q (event_rows_of input) a) parts_there (subst (λ (rs : List Row). AreTraced (parts_by handlers tables requests first_table first) rs a) rows_are h)

        pub traced_refused : (e : LoadError) → IsTracedReason (parts_by handlers tables requests first_table first) (rows p.line (lines events)) e → IsReason Audit input e
        traced_refused e h = audit_reason input e traced_input
            (subst (λ (q : Parts). IsTracedReason q (event_rows_of input) e) parts_there (subst (λ (rs : List Row). IsTracedReason (parts_by handlers tables requests first_table first) rs e) rows_are h))
